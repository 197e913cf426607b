-- `write_pen::put_values` meets its contract. The loop's invariant: what is written is the set's values in the bits passed.
use lib.ListN.{take}
use Rattle.write_pen.specs.Pen.{Wrote, values_text}
use Rattle.write_pen.proofs.put_values.Given as goal

abbrev pub invariant-loop-b : goal.invariant-loop-b
invariant-loop-b l = Wrote l.initial.out l.at (values_text (take l.b-index l.bits) l.g l.mixed) l.to l.out
