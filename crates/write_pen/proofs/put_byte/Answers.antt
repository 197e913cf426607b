-- `write_pen::put_byte` meets its contract: a byte behind the buffer's end is lost, and any other is stored.
use native.Mathlib.Omega.{arith}
use Rattle.write_pen.proofs.Laws.{wrote_one, wrote-lost}
use Rattle.write_pen.proofs.put_byte.Goals.{then-at-out, else-at-out}
use Rattle.write_pen.proofs.put_byte.Goals as goal

pub returns : goal.returns
returns c =
    let r = c.saturating_add.ensures in
    elim c.if-at-out.branch [
      | then-at-out w ↦ rw w.out-is (wrote_one _ _ _ r (omega arith))
      | else-at-out w ↦ rw w.out-is (wrote-lost _ _ _ r (omega arith) (omega arith))
    ]
