-- `judge_search::present_word` meets its contract.
use borrow.Author.Rules.{rules}
use Rattle.judge_search.specs.Rows.{stands, present_word}
use Rattle.judge_search.proofs.present_word.Goals as goal

pub returns : goal.returns
unfolding present_word
returns c = c.word_of.ensures (stands c.args.fires.now c.args.s) (λ k b h. search rules)
