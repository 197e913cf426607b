-- `write_names::put_states` meets its contract. The loop's invariant: what is written is the lines of the first i names.
use Rattle.read_names.specs.Names.{names_in}
use Rattle.write_pen.specs.Pen.{Wrote}
use Rattle.write_names.proofs.Lines.{lines_to}
use Rattle.write_names.proofs.put_states.Given as goal

abbrev pub invariant-loop-i : goal.invariant-loop-i
invariant-loop-i l = Wrote l.initial.out 0 (lines_to (names_in l.text l.fn.names) l.i) l.to l.out
