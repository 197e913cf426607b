-- `write_pen::put_digits` meets its contract. The loop's invariant: what is written is the first i digits.
use Rattle.write_pen.specs.Pen.{Wrote, digits_text}
use Rattle.write_pen.proofs.put_digits.Given as goal

abbrev pub invariant-loop-i : goal.invariant-loop-i
invariant-loop-i l = Wrote l.initial.out l.at (digits_text l.m l.i) l.to l.out
