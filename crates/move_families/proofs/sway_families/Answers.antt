-- `move_families::sway_families` meets its contract: the families still to come move the table, and count their looks, as all of them do.
use Rattle.std.proofs.Common.{refl, ap, ◌∙◌, arith}
use Rattle.std.specs.Slice.Iter.{chunks_rest, chunks_size}
use Rattle.move_families.proofs.Turn.{left-all, left-run, left-none}
use Rattle.move_families.proofs.sway_families.Goals as goal

pub loop-run-init : goal.loop-run-init
loop-run-init c =
    let a = c.args in
    let e = c.into_iter-run-iterator.ensures.into_iter_gives in
    (left-all a.fs.now a.b a.s a.t.now _ (ap chunks_rest e ∙ c.chunks-run-items.ensures.rest), ap chunks_size e ∙ c.chunks-run-items.ensures.size)

pub loop-run-preserved : goal.loop-run-preserved
loop-run-preserved c =
    let a = c.args in
    let l = c.loop-run in
    let n = c.in-Some.ensures.steps in
    (left-run a.fs.now a.b a.s a.t.now l.t _ l.looks _ _ _ _ _ n.1.0 (omega (arith, n.1.1, l.invariant.1)) l.invariant.0 c.sway_run-looks.ensures refl, n.0 ∙ l.invariant.1)

pub returns : goal.returns
returns c =
    let a = c.args in
    let l = c.loop-run in
    left-none a.fs.now a.b a.s a.t.now l.t l.looks _ c.in-None.ensures.steps.1.0 l.invariant.0
