-- `run_encoded::code_after` meets its contract: the rows that are still to come give the rest.
use mathlib.Core.Path.{◌≡◌}
use lib.ListN.{drop}
use Rattle.run_encoded.specs.Terms.{code_by}
use Rattle.run_encoded.proofs.code_after.Given as goal

abbrev pub invariant-loop-q : goal.invariant-loop-q
invariant-loop-q l = code_by l.inputs l.width l.x l.code l.given (drop l.q-index l.q-items) ≡ code_by l.inputs l.width l.x l.code 0 l.q-items
