-- `judge_search::present_in` meets its contract.
use borrow.Author.Rules.{rules}
use Rattle.judge_search.specs.Rows.{words_of, present_word, present}
use Rattle.judge_search.proofs.FromFn.{from-fn}
use Rattle.judge_search.proofs.present_in.Goals as goal

pub returns : goal.returns
unfolding present words_of present_word
returns c =
    let a = c.args in
    from-fn c.from_fn.result (present_word a.fires.now a.s) (λ i y q k. search rules) c.from_fn.ensures.items
