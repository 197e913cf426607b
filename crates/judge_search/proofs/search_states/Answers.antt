-- `judge_search::search_states` meets its contract: the states that were passed have no fault.
use mathlib.Core.Path.{◌∙◌}
use native.Mathlib.Omega.{arith}
use Rattle.judge_search.proofs.States.{state-fails, state-passes, states-over}
use Rattle.judge_search.proofs.search_states.Goals as goal

pub returns-in-Some : goal.returns-in-Some
returns-in-Some c =
    let a = c.args in
    state-fails a.fires.now a.says.now c.least-n.result c.loop-s.s a.states c.search_state.ensures c.loop-s-test.true c.in-Some.is ∙ c.loop-s.invariant

pub loop-s-preserved : goal.loop-s-preserved
loop-s-preserved c =
    let a = c.args in
    state-passes a.fires.now a.says.now c.least-n.result c.loop-s.s a.states c.search_state.ensures c.loop-s-test.true c.in_default.is ∙ c.loop-s.invariant

pub returns : goal.returns
returns c =
    states-over _ _ c.loop-s.s _ (omega (arith, c.loop-s-test.false)) ∙ c.loop-s.invariant
