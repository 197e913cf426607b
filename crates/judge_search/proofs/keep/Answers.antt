-- `judge_search::keep` meets its contract.
use borrow.Author.Rules.{rules}
use lib.Bits.{bit_and}
use lib.ListN.{get_or}
use Prim.Native.Nat.{◌+◌}
use Rattle.judge_search.specs.Search.{kept_words}
use Rattle.judge_search.proofs.FromFn.{from-fn}
use Rattle.judge_search.proofs.keep.Goals as goal

pub returns : goal.returns
unfolding kept_words
returns c =
    let a = c.args in
    from-fn c.from_fn.result (λ q. bit_and (get_or a.rows q 0) (get_or a.words.now (a.at + q) 0)) (λ i y q k. search rules) c.from_fn.ensures.items
