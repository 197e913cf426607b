-- `move_pairs::fill_pairs` meets its contract.
use mathlib.Core.Path.{◌≡◌}
use Rattle.move_pairs.proofs.Filling.{filledFrom}
use Rattle.move_pairs.proofs.fill_pairs.Given as goal

abbrev pub invariant-loop-i : goal.invariant-loop-i
invariant-loop-i l =
    filledFrom l.n l.bits l.b l.i l.t ≡ filledFrom l.n l.bits l.b 0 l.initial.t
