-- `move_families::marks::sway_run` meets its contract.
use Rattle.sets.specs.Sets.{size}
use Rattle.move_families.proofs.Marked.{Marked}
use Rattle.move_families.proofs.marks.sway_run.Given as goal

abbrev pub invariant-loop-marks : goal.invariant-loop-marks
invariant-loop-marks l =
    Marked l.run l.b l.s l.initial.t l.t l.looks l.marks

abbrev pub decreases-loop-marks : goal.decreases-loop-marks
decreases-loop-marks l = size l.marks
