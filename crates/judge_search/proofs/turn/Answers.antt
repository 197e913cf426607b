-- `judge_search::turn` meets its contract.
use borrow.Author.Rules.{rules}
use lib.Bits.{bit_xor}
use lib.ListN.{get_or}
use Rattle.judge_search.specs.Search.{turned_words}
use Rattle.judge_search.proofs.FromFn.{from-fn}
use Rattle.judge_search.proofs.turn.Goals as goal

pub returns : goal.returns
unfolding turned_words
returns c =
    let a = c.args in
    from-fn c.from_fn.result (λ q. bit_xor (get_or a.rows q 0) (get_or a.others q 0)) (λ i y q k. search rules) c.from_fn.ensures.items
