-- `move_families::sway_families` meets its contract: the families still to come move the table, and count their looks, as all of them do.
use Rattle.std.proofs.Common.{◌≡◌}
use Rattle.std.specs.Slice.Iter.{chunks_rest, chunks_size}
use Rattle.move_families.proofs.Turn.{Left}
use Rattle.move_families.proofs.sway_families.Given as goal

abbrev pub invariant-loop-run : goal.invariant-loop-run
invariant-loop-run l =
    Left l.fs l.b l.s l.initial.t l.t l.looks (chunks_rest l.run-iterator) × (chunks_size l.run-iterator ≡ 192)
