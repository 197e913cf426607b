-- `move_pairs::partners_of` meets its contract.
use mathlib.Core.Path.{◌≡◌}
use lib.ListN.{drop}
use Rattle.move_pairs.specs.Pairs.{alike_in, partners_of}
use Rattle.move_pairs.proofs.partners_of.Given as goal

abbrev pub invariant-loop-bit : goal.invariant-loop-bit
invariant-loop-bit l =
    alike_in (drop l.bit-index l.bits) l.s l.p ≡ partners_of l.n l.bits l.s
