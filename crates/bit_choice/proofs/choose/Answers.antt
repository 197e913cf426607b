-- `passes::choose` meets its contract: r is the choice among the states passed, and the rest has the free ones that are still to come.
use Rattle.std.proofs.Common.{refl, arith}
use Rattle.bit_choice.proofs.Ahead.{choose-none, choose-first, choose-fewer, choose-higher, choose-kept, choose-end}
use Rattle.bit_choice.proofs.choose.Goals.{then-level_at, else-level_at}
use Rattle.bit_choice.proofs.choose.Goals as goal

pub returns-then-all-eq0 : goal.returns-then-all-eq0
returns-then-all-eq0 c = choose-none c.args.n c.args.free c.args.t.now _ _ c.everyone_of.ensures refl c.ranges.free.fits c.if-all-eq0.true

pub loop-rest-init : goal.loop-rest-init
loop-rest-init c = choose-first c.args.n c.args.free c.args.t.now _ _ c.everyone_of.ensures refl c.ranges.free.fits
    _ _ c.if-all-eq0.false c.lowest-r.ensures c.without_lowest-rest.ensures

pub loop-rest-smaller : goal.loop-rest-smaller
loop-rest-smaller c = choose-fewer _ _ _ _ _ _ _ c.loop-rest.invariant c.loop-rest-test.true c.lowest-i.ensures c.without_lowest-rest-in-loop-rest.ensures

pub loop-rest-preserved : goal.loop-rest-preserved
loop-rest-preserved c = let e = c.level_at.ensures in
    let f = c.level_at-in-loop-rest.ensures in
    let o = c.loop-rest-test.true in
    elim c.if-level_at.branch [
      | then-level_at w ↦ choose-higher _ _ _ _ _ _ _ c.loop-rest.invariant o c.lowest-i.ensures c.without_lowest-rest-in-loop-rest.ensures _ (omega (arith, w.if-level_at.true)) w.r-is
      | else-level_at w ↦ choose-kept _ _ _ _ _ _ _ c.loop-rest.invariant o c.lowest-i.ensures c.without_lowest-rest-in-loop-rest.ensures _ (omega (arith, w.if-level_at.false)) w.r-is
    ]

pub returns : goal.returns
returns c = choose-end _ _ _ _ _ c.loop-rest.invariant c.loop-rest-test.false
