-- `write_rows::is_zeros` meets its contract: the bits that are still to come decide.
use mathlib.Core.Path.{sym, ◌∙◌}
use native.Mathlib.Omega.{arith}
use Rattle.write_rows.proofs.LeftOut.{zero-here, one-here, zeros-end}
use Rattle.write_rows.proofs.is_zeros.Goals as goal

pub returns-then-b-next-ne0 : goal.returns-then-b-next-ne0
returns-then-b-next-ne0 c =
    let a = c.args in
    sym (one-here a.bits.now a.next c.loop-b.b-index (omega arith) c.if-b-next-ne0.true) ∙ c.loop-b.invariant

pub loop-b-preserved : goal.loop-b-preserved
loop-b-preserved c =
    let a = c.args in
    sym (zero-here a.bits.now a.next c.loop-b.b-index (omega arith) c.if-b-next-ne0.false) ∙ c.loop-b.invariant

pub returns : goal.returns
returns c =
    let a = c.args in
    sym (zeros-end a.bits.now a.next c.loop-b.b-index (omega arith)) ∙ c.loop-b.invariant
