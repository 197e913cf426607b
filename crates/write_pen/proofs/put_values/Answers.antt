-- `write_pen::put_values` meets its contract. The loop's invariant: what is written is the set's values in the bits passed.
use mathlib.Core.Path.{sym}
use native.Mathlib.Omega.{arith}
use Rattle.write_pen.proofs.Laws.{wrote_none, wrote_then, wrote_as}
use Rattle.write_pen.proofs.Values.{values-none, values-more}
use Rattle.write_pen.proofs.put_values.Goals as goal

pub loop-b-init : goal.loop-b-init
loop-b-init c = wrote_as (wrote_none _ _ (omega arith) (omega arith)) (sym (values-none _ _))

pub loop-b-preserved : goal.loop-b-preserved
loop-b-preserved c =
    let s = c.args in
    let more = values-more s.g s.mixed s.bits.now c.loop-b.b-index (omega arith) c.value_byte.ensures in
    wrote_as (wrote_then c.loop-b.invariant c.put_byte-to.ensures) (sym more)
