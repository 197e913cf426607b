-- `judge_search::columns_of` meets its contract: the words that were passed are filled.
use mathlib.Core.Path.{◌≡◌, ◌∙◌}
use native.Mathlib.Omega.{arith}
use lib.ListN.{length-set}
use Rattle.judge_search.specs.Rows.{column_word, columns}
use Rattle.judge_search.proofs.Columns.{filled, filled_more}
use Rattle.judge_search.proofs.columns_of.Goals as goal

pub loop-w-preserved : goal.loop-w-preserved
loop-w-preserved c =
    let l = c.loop-w in (
      length-set l.word-items l.w c.column_word.result ∙ l.invariant.0,
      filled_more (column_word c.args.fires.now) l.w l.word-items (omega (arith, l.invariant.0)) c.column_word.ensures l.invariant.1,
    )

pub returns : goal.returns
unfolding columns
returns c =
    let e : c.loop-w.w ≡ 224 = omega arith in
    filled (column_word c.args.fires.now) 224 c.loop-w.word-items c.loop-w.invariant.0 (λ k h. c.loop-w.invariant.1 k (omega arith))
