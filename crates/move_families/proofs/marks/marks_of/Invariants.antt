-- `move_families::marks::marks_of` meets its contract: the marks of the families behind those still to come are made.
use Rattle.std.specs.Slice.Iter.{iter_rest}
use Rattle.std.specs.Iterator.Adapters.{rev_source}
use Rattle.move_families.proofs.Marked.{Marking}
use Rattle.move_families.proofs.marks.marks_of.Given as goal

abbrev pub invariant-loop-all : goal.invariant-loop-all
invariant-loop-all l =
    Marking l.run l.b l.s (iter_rest (rev_source l.all-iterator)) l.word
