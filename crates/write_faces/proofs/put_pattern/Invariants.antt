-- `write_faces::put_pattern` meets its contract. The loop's invariant: what is written is the first j characters.
use Rattle.write_pen.specs.Pen.{Wrote}
use Rattle.write_faces.specs.Faces.{pattern_text}
use Rattle.write_faces.proofs.put_pattern.Given as goal

abbrev pub invariant-loop-j : goal.invariant-loop-j
invariant-loop-j l = Wrote l.initial.out l.at (pattern_text l.p l.j) l.to l.out
