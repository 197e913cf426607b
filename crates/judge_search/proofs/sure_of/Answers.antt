-- `judge_search::sure_of` meets its contract: with the inputs that are left, the rows are those of the start.
use mathlib.Core.Path.{sym, ◌∙◌}
use native.Mathlib.Omega.{arith}
use Rattle.judge_search.proofs.Words.{sure_next, sure-over}
use Rattle.judge_search.proofs.sure_of.Goals as goal

pub loop-j-preserved : goal.loop-j-preserved
loop-j-preserved c =
    sure_next _ c.loop-j.j _ c.loop-j.sure c.loop-j-test.true c.keep-low.ensures c.keep-sure.ensures ∙ c.loop-j.invariant

pub returns : goal.returns
returns c =
    sym (sure-over _ c.loop-j.j _ c.loop-j.sure (omega (arith, c.loop-j-test.false))) ∙ c.loop-j.invariant
