-- `code_judging::judge` meets its contract: the bits tried one after the other.
use Rattle.rules.specs.Requirements.{judged_from, judgement}
use mathlib.Core.Path.{◌≡◌}
use lib.ListN.{drop}
use Rattle.code_judging.proofs.judge.Given as goal

abbrev pub invariant-loop-k : goal.invariant-loop-k
invariant-loop-k l =
    judged_from l.k 64 (drop l.k l.bits) l.r ≡ judgement 64 l.bits l.r
