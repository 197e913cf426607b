-- `move_families::marks::marks_of` meets its contract: the marks of the families behind those still to come are made.
use Rattle.std.proofs.Common.{ap, ◌∙◌, arith}
use Rattle.std.specs.Slice.Iter.{iter_rest}
use Rattle.std.specs.Iterator.Adapters.{rev_source}
use Rattle.move_families.proofs.Marked.{digit-below, marking-none, marking-room, marking-turn, marking-done}
use Rattle.move_families.proofs.marks.marks_of.Goals as goal

pub loop-all-init : goal.loop-all-init
loop-all-init c =
    let a = c.args in
    marking-none a.run.now a.b a.s _
    (ap (λ s. iter_rest (rev_source s)) c.into_iter-all-iterator.ensures.into_iter_gives ∙ ap iter_rest c.rev-all-items.ensures.source ∙ c.iter.ensures.rest ∙ c.as_chunks.ensures.front)

pub overflow_mul-word : goal.overflow_mul-word
overflow_mul-word c =
    let a = c.args in
    let h = marking-room a.run.now a.b a.s _ _ _ c.loop-all.word c.in-Some.ensures.steps c.loop-all.invariant c.requires in
    record { fits = omega (arith, h) }

pub overflow_add-word : goal.overflow_add-word
overflow_add-word c =
    let a = c.args in
    let h = marking-room a.run.now a.b a.s _ _ _ c.loop-all.word c.in-Some.ensures.steps c.loop-all.invariant c.requires in
    record { fits = omega (arith, h, digit-below _ _ c.mark_of.ensures) }

pub loop-all-preserved : goal.loop-all-preserved
loop-all-preserved c =
    let a = c.args in
    marking-turn a.run.now a.b a.s _ _ _ c.loop-all.word c.in-Some.ensures.steps c.loop-all.invariant _ c.mark_of.ensures

pub returns : goal.returns
returns c =
    let a = c.args in
    marking-done a.run.now a.b a.s _ c.loop-all.word c.in-None.ensures.steps.0 c.loop-all.invariant
