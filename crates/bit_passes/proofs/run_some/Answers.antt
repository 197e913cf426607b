-- `bit_passes::run_some` meets its contract.
use Rattle.std.proofs.Common.{◌+◌, ◌-◌, refl, arith}
use Rattle.bit_live.specs.Live.{live_in}
use Rattle.bit_passes.proofs.Running.{running_more, running-last, running-end}
use Rattle.bit_passes.proofs.run_some.Goals as goal

pub returns-then-p-le-LEVEL : goal.returns-then-p-le-LEVEL
returns-then-p-le-LEVEL c =
    let a = c.args in
    let r = c.loop.run in
    running-last a.n (live_in a.n a.bits.now a.fs.now) a.w.bit a.w.passes a.w.looks a.k r.bit r.passes r.looks (a.k - c.loop.counter) _ _ c.run_pass-p.result (omega (arith, c.loop-test.true)) c.run_pass-p.ensures
    refl refl c.loop.invariant.0 c.if-p-le-LEVEL.true a.w c.if-w.false refl refl refl

pub loop-preserved : goal.loop-preserved
loop-preserved c =
    let a = c.args in
    let r = c.loop.run in (
      running_more a.n (live_in a.n a.bits.now a.fs.now) a.w.bit a.w.passes a.w.looks a.k r.bit r.passes r.looks (a.k - c.loop.counter) _ _ c.run_pass-p.result (omega (arith, c.loop-test.true)) c.run_pass-p.ensures
          refl refl c.loop.invariant.0 (a.k - (c.loop.counter + 1)) (omega (arith, c.loop-test.true)) c.if-p-le-LEVEL.false,
      c.loop.invariant.1,
    )

pub returns : goal.returns
returns c =
    let a = c.args in
    running-end a.n (live_in a.n a.bits.now a.fs.now) a.w.bit a.w.passes a.w.looks a.k (a.k - c.loop.counter) a.w c.loop.run (omega (arith, c.loop-test.false)) c.loop.invariant.0 c.loop.invariant.1 c.if-w.false refl refl refl
