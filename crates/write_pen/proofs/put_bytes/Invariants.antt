-- `write_pen::put_bytes` meets its contract. The loop's invariant: what is written is the bytes passed.
use lib.ListN.{take}
use Rattle.write_pen.specs.Pen.{Wrote}
use Rattle.write_pen.proofs.put_bytes.Given as goal

abbrev pub invariant-loop-b : goal.invariant-loop-b
invariant-loop-b l = Wrote l.initial.out l.at (take l.b-index l.s) l.to l.out
