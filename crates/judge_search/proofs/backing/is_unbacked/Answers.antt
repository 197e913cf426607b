-- `judge_search::backing::is_unbacked` meets its contract.
use mathlib.Core.Path.{ap, ◌∙◌}
use mathlib.Core.Bool.{not}
use borrow.Author.Tests.{eq-eqb, ne_eqb}
use Rattle.judge_search.proofs.Backed.{and-fails, and-holds, unbacked-by}
use Rattle.judge_search.proofs.backing.is_unbacked.Goals as goal

pub returns-then-firing_at-eq0 : goal.returns-then-firing_at-eq0
returns-then-firing_at-eq0 c =
    let a = c.args in
    and-fails _ (ap not (eq-eqb _ 0 c.if-firing_at-eq0.true)) ∙ unbacked-by a.fires.now a.says.now a.f a.by a.x c.firing_at.ensures

pub returns-then-says-x-eq0 : goal.returns-then-says-x-eq0
returns-then-says-x-eq0 c =
    let a = c.args in
    and-holds (ap not (ne_eqb _ 0 c.if-firing_at-eq0.false)) (and-fails _ (ap not (eq-eqb _ 0 c.if-says-x-eq0.true))) ∙ unbacked-by a.fires.now a.says.now a.f a.by a.x c.firing_at.ensures

pub returns : goal.returns
returns c =
    let a = c.args in
    and-holds (ap not (ne_eqb _ 0 c.if-firing_at-eq0.false)) (and-holds (ap not (ne_eqb _ 0 c.if-says-x-eq0.false)) (ap not c.is_backed.ensures)) ∙ unbacked-by a.fires.now a.says.now a.f a.by a.x c.firing_at.ensures
