-- `code_judging::judge` meets its contract: the bits tried one after the other.
use Rattle.rules.specs.Requirements.{judgement}
use Rattle.code_judging.proofs.Ways.{bit-meets, bit-fails, no-bit}
use mathlib.Core.Path.{refl, sym, ◌∙◌}
use native.Mathlib.Omega.{arith}
use Rattle.code_judging.proofs.judge.Goals as goal

pub loop-k-init : goal.loop-k-init
unfolding judgement
loop-k-init c =
    refl

pub returns-then-meets : goal.returns-then-meets
returns-then-meets c =
    let a = c.args in
    sym (bit-meets 64 a.bits.now a.r c.loop-k.k (omega arith) (sym c.meets.ensures ∙ c.if-meets.true)) ∙ c.loop-k.invariant

pub loop-k-preserved : goal.loop-k-preserved
loop-k-preserved c =
    let a = c.args in
    sym (bit-fails 64 a.bits.now a.r c.loop-k.k (omega arith) (sym c.meets.ensures ∙ c.if-meets.false)) ∙ c.loop-k.invariant

pub returns : goal.returns
returns c =
    let a = c.args in
    sym (no-bit 64 a.bits.now a.r c.loop-k.k (omega arith)) ∙ c.loop-k.invariant
