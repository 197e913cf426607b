-- `write_pen::put_digits` meets its contract. The loop's invariant: what is written is the first i digits.
use mathlib.Core.Path.{sym}
use native.Mathlib.Omega.{arith}
use Rattle.write_pen.proofs.Laws.{wrote_none, wrote_then, wrote_as}
use Rattle.write_pen.proofs.Growing.{digits-none, digits-one}
use Rattle.write_pen.proofs.put_digits.Goals as goal

pub loop-i-init : goal.loop-i-init
loop-i-init c = wrote_as (wrote_none _ _ (omega arith) (omega arith)) (sym (digits-none _))

pub loop-i-preserved : goal.loop-i-preserved
loop-i-preserved c = wrote_as (wrote_then c.loop-i.invariant c.put_byte-to.ensures) (sym (digits-one _ c.loop-i.i c.digit_byte.ensures))
