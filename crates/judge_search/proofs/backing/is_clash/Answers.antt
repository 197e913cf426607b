-- `judge_search::backing::is_clash` meets its contract.
use mathlib.Core.Path.{ap, ◌∙◌}
use mathlib.Core.Bool.{not}
use borrow.Author.Tests.{eq-eqb, ne_eqb}
use Rattle.judge_search.specs.Backing.{clash}
use Rattle.judge_search.proofs.Backed.{and-fails, and-holds, clash-by}
use Rattle.judge_search.proofs.backing.is_clash.Goals as goal

pub returns-then-says-x-eq0 : goal.returns-then-says-x-eq0
unfolding clash
returns-then-says-x-eq0 c = and-fails _ (ap not (eq-eqb _ 0 c.if-says-x-eq0.true))

pub returns-then-one-other-eq0 : goal.returns-then-one-other-eq0
returns-then-one-other-eq0 c =
    let a = c.args in
    and-holds (ap not (ne_eqb _ 0 c.if-says-x-eq0.false)) (and-fails _ (ap not (eq-eqb _ 0 c.if-one-other-eq0.true)))
    ∙ clash-by a.fires.now a.says.now a.x a.y c.firing_at-one.ensures c.firing_at-other.ensures a.inputs

pub returns : goal.returns
returns c =
    let a = c.args in
    and-holds (ap not (ne_eqb _ 0 c.if-says-x-eq0.false)) (and-holds (ap not (ne_eqb _ 0 c.if-one-other-eq0.false)) c.share_inputs.ensures)
    ∙ clash-by a.fires.now a.says.now a.x a.y c.firing_at-one.ensures c.firing_at-other.ensures a.inputs
