-- `move_families::fill_families` meets its contract: the families still to come fill the table as all of them do.
use Rattle.move_families.specs.Filled.{filled_all}
use Rattle.std.proofs.Common.{◌≡◌, ◌*◌, drop}
use Rattle.move_families.proofs.fill_families.Given as goal

abbrev pub invariant-loop-all : goal.invariant-loop-all
invariant-loop-all l =
    filled_all (drop (3 * l.all-index) l.fs) l.b l.t ≡ filled_all l.fs l.b l.initial.t
