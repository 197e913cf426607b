-- `code_walking::enter` meets its contract. The loop's invariant: entering here is entering where it began.
use Rattle.code_walking.specs.Walking.{entered}
use Prim.Native.Nat.{◌-◌}
use mathlib.Core.Path.{◌≡◌}
use lib.ListN.{length}
use Rattle.code_walking.proofs.enter.Given as goal

abbrev pub invariant-loop-at : goal.invariant-loop-at
invariant-loop-at l =
    entered l.fs l.at ≡ entered l.fs l.from

abbrev pub decreases-loop-at : goal.decreases-loop-at
decreases-loop-at l =
    length l.fs - l.at
