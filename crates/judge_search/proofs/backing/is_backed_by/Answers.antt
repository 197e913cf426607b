-- `judge_search::backing::is_backed_by` meets its contract.
use mathlib.Core.Path.{sym, ◌∙◌}
use borrow.Author.Tests.{eq-eqb, ne_eqb}
use Rattle.judge_search.proofs.Backed.{and-fails, and-holds, backed-by}
use Rattle.judge_search.proofs.backing.is_backed_by.Goals as goal

pub returns-then-one-other : goal.returns-then-one-other
returns-then-one-other c =
    let a = c.args in
    and-fails _ (ne_eqb _ _ c.if-one-other.true) ∙ backed-by a.fires.now a.says.now a.x a.y c.firing_at-one.ensures c.firing_at-other.ensures a.f a.g

pub returns-then-one-other-2 : goal.returns-then-one-other-2
returns-then-one-other-2 c =
    let a = c.args in
    and-holds (eq-eqb _ _ c.if-one-other.false) (and-fails _ (ne_eqb _ _ c.if-one-other-2.true))
    ∙ backed-by a.fires.now a.says.now a.x a.y c.firing_at-one.ensures c.firing_at-other.ensures a.f a.g

pub returns-then-not-is_within : goal.returns-then-not-is_within
returns-then-not-is_within c =
    let a = c.args in
    and-holds (eq-eqb _ _ c.if-one-other.false) (and-holds (eq-eqb _ _ c.if-one-other-2.false) (and-fails _ (sym c.is_within.ensures ∙ c.if-not-is_within.true)))
    ∙ backed-by a.fires.now a.says.now a.x a.y c.firing_at-one.ensures c.firing_at-other.ensures a.f a.g

pub returns : goal.returns
returns c =
    let a = c.args in
    and-holds (eq-eqb _ _ c.if-one-other.false) (and-holds (eq-eqb _ _ c.if-one-other-2.false) (and-holds (sym c.is_within.ensures ∙ c.if-not-is_within.false) c.is_within-2.ensures))
    ∙ backed-by a.fires.now a.says.now a.x a.y c.firing_at-one.ensures c.firing_at-other.ensures a.f a.g
