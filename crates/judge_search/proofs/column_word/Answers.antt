-- `judge_search::column_word` meets its contract.
use borrow.Author.Rules.{rules}
use Prim.Native.Nat.{◌/◌, ◌%◌}
use Rattle.judge_search.specs.Rows.{lets, column_word}
use Rattle.judge_search.proofs.column_word.Goals as goal

pub returns : goal.returns
unfolding column_word
returns c =
    let w = c.args.w in
    c.word_of.ensures (lets c.args.fires.now (w / 14) (w % 14 / 7)) (λ k b h. search rules)
