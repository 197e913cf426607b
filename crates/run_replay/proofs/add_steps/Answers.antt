-- `run_replay::add_steps` meets its contract: what is done from the line that comes on, behind what is added, is all that is done.
use mathlib.Core.Path.{refl, sym, ap, ◌∙◌}
use Prim.Native.Nat.{◌+◌}
use native.Mathlib.Omega.{arith}
use lib.ListN.{length}
use Rattle.read_pieces.proofs.Laws.{cut_of}
use Rattle.write_parts.proofs.Adding.{Lent, all-length}
use Rattle.run_replay.specs.Places.{Course, ran_on}
use Rattle.run_replay.specs.declared.Place.{Place}
use Rattle.run_replay.proofs.Lines.{step-on, none-on, read-few, cut-refused, cut-ends, cut-steps, cut-bad, cut-over, reason-is}
use Rattle.run_replay.proofs.add_steps.Goals as goal

pub loop-end-init : goal.loop-end-init
loop-end-init c =
    (cut_of _ _ 0 (omega arith) c.cut-end.ensures, omega arith, refl, refl)

pub returns-in_default : goal.returns-in_default
returns-in_default c =
    let a = c.args in
    let e = reason-is _ c.in_default.is c.err.ensures.value c.unwrap_or-refusal.ensures in
    c.add_end.ensures
    ∙ ap (λ (g : Course). ran_on g (c.loop-end.to, c.loop-end.out))
    (sym (cut-refused a.m.listing.now a.m.terms.now (length a.m.bits.now) a.run.now c.loop-end.at c.loop-end.end c.loop-end.invariant.0 c.loop-end.done c.loop-end.state c.loop-end.code c.loop-end-test.true (sym c.vector_line-got.ensures ∙ e)))
    ∙ c.loop-end.invariant.3

pub returns-then-moved-eq0 : goal.returns-then-moved-eq0
returns-then-moved-eq0 c =
    let a = c.args in
    c.add_end-then-moved-eq0.ensures
    ∙ ap (λ (g : Course). ran_on g (c.loop-end.to, c.loop-end.out))
    (sym (cut-ends a.m.listing.now a.m.terms.now (length a.m.bits.now) a.run.now c.loop-end.at c.loop-end.end c.loop-end.invariant.0 c.loop-end.done c.loop-end.state c.loop-end.code c.loop-end-test.true (sym c.vector_line-got.ensures ∙ c.in-Ok.is) c.step_both-moved.ensures c.if-moved-eq0.true))
    ∙ c.loop-end.invariant.3

pub overflow_add-done-in-loop-end : goal.overflow_add-done-in-loop-end
overflow_add-done-in-loop-end c =
    omega (arith, read-few _ _ _ (sym c.vector_line-got.ensures ∙ c.in-Ok.is))

pub loop-end-preserved : goal.loop-end-preserved
loop-end-preserved c =
    let a = c.args in
    let e = sym c.vector_line-got.ensures ∙ c.in-Ok.is in
    let more = c.loop-end-test.true in
    let put = c.add_step-to.ensures in (
      cut_of _ _ (c.loop-end.end + 1) (omega (arith, more)) c.cut-end-in-loop-end.ensures,
      omega (arith, read-few _ _ _ e),
      ap (λ (p : Lent). length p.1) put ∙ all-length _ _ ∙ c.loop-end.invariant.2,
      step-on a.m.listing.now (length a.m.bits.now) _ _ (c.loop-end.to, c.loop-end.out) _ put
          ∙ ap (λ (g : Course). ran_on g (c.loop-end.to, c.loop-end.out))
          (sym (cut-steps a.m.listing.now a.m.terms.now (length a.m.bits.now) a.run.now c.loop-end.at c.loop-end.end c.loop-end.invariant.0 c.loop-end.done c.loop-end.state c.loop-end.code more e c.step_both-moved.ensures c.if-moved-eq0.false))
          ∙ c.loop-end.invariant.3,
    )

pub returns-then-at-end : goal.returns-then-at-end
returns-then-at-end c =
    let a = c.args in
    c.add_end-then-at-end.ensures
    ∙ ap (λ (g : Course). ran_on g (c.loop-end.to, c.loop-end.out))
    (sym (cut-bad a.m.listing.now a.m.terms.now (length a.m.bits.now) a.run.now c.loop-end.at c.loop-end.end c.loop-end.invariant.0 c.loop-end.done c.loop-end.state c.loop-end.code c.loop-end-test.false c.if-at-end.true))
    ∙ c.loop-end.invariant.3

pub returns : goal.returns
returns c =
    let a = c.args in
    none-on (Place.Behind c.loop-end.done c.loop-end.state c.loop-end.code) (c.loop-end.to, c.loop-end.out)
    ∙ ap (λ (g : Course). ran_on g (c.loop-end.to, c.loop-end.out))
    (sym (cut-over a.m.listing.now a.m.terms.now (length a.m.bits.now) a.run.now c.loop-end.at c.loop-end.end c.loop-end.invariant.0 c.loop-end.done c.loop-end.state c.loop-end.code c.loop-end-test.false c.if-at-end.false))
    ∙ c.loop-end.invariant.3
