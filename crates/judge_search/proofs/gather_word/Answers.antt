-- `judge_search::gather_word` meets its contract: with the rows that are left, what is said is what it was at the start.
use mathlib.Core.Path.{sym, ap, ◌∙◌}
use Rattle.sets.proofs.LowestMember.{without-lt, without_fewer}
use Rattle.judge_search.specs.Search.{gathered_word}
use Rattle.judge_search.proofs.Words.{gathered_none, gathered-more}
use Rattle.judge_search.proofs.gather_word.Goals as goal

pub loop-left-smaller : goal.loop-left-smaller
loop-left-smaller c =
    without_fewer c.loop-left.left _ _ c.loop-left.invariant.0 c.loop-left-test.true c.lowest.ensures c.without_lowest-left.ensures

pub loop-left-preserved : goal.loop-left-preserved
loop-left-preserved c =
    let a = c.args in (
      without-lt c.loop-left.left _ _ c.loop-left.invariant.0 c.loop-left-test.true c.lowest.ensures c.without_lowest-left.ensures,
      gathered-more a.says.now a.from c.loop-left.left c.loop-left.all c.loop-left.invariant.0 c.loop-left-test.true c.lowest.ensures c.without_lowest-left.ensures c.said_with-all.ensures ∙ c.loop-left.invariant.1,
    )

pub returns : goal.returns
returns c =
    let a = c.args in
    sym (ap (λ (m : _). gathered_word a.says.now a.from 64 m c.loop-left.all) c.loop-left-test.false ∙ gathered_none a.says.now a.from 64 c.loop-left.all) ∙ c.loop-left.invariant.1
