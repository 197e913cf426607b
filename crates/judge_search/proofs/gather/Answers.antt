-- `judge_search::gather` meets its contract: with the words that are left, what is said is what it was at the start.
use mathlib.Core.Path.{sym, ◌∙◌}
use native.Mathlib.Omega.{arith}
use Rattle.judge_search.proofs.Words.{words-next, words-over}
use Rattle.judge_search.proofs.gather.Goals as goal

pub loop-q-preserved : goal.loop-q-preserved
loop-q-preserved c =
    words-next _ _ c.loop-q.q _ c.loop-q.all c.loop-q-test.true c.gather_word-all.ensures ∙ c.loop-q.invariant

pub returns : goal.returns
returns c =
    sym (words-over _ _ c.loop-q.q _ c.loop-q.all (omega (arith, c.loop-q-test.false))) ∙ c.loop-q.invariant
