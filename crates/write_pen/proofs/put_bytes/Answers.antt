-- `write_pen::put_bytes` meets its contract. The loop's invariant: what is written is the bytes passed.
use mathlib.Core.Path.{sym}
use native.Mathlib.Omega.{arith}
use Rattle.write_pen.proofs.Laws.{wrote_none, wrote_then, wrote_as}
use Rattle.write_pen.proofs.Growing.{take-one}
use Rattle.write_pen.proofs.put_bytes.Goals as goal

pub loop-b-init : goal.loop-b-init
loop-b-init c = wrote_none _ _ (omega arith) (omega arith)

pub loop-b-preserved : goal.loop-b-preserved
loop-b-preserved c = wrote_as (wrote_then c.loop-b.invariant c.put_byte-to.ensures) (sym (take-one _ c.loop-b.b-index 0 (omega arith)))
