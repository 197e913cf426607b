-- `judge_codes::bits_of` meets its contract: bit by bit.
use mathlib.Core.Path.{ap, ◌∙◌}
use borrow.Author.Rules.{rules}
use Prim.Native.Nat.{ℕ}
use lib.ListN.{take}
use Rattle.rules.specs.CheckTexts.{bit_in}
use Rattle.judge_search.proofs.FromFn.{from-fn}
use Rattle.judge_codes.specs.Lines.{all_bits}
use Rattle.judge_codes.proofs.bits_of.Goals as goal

pub returns : goal.returns
unfolding all_bits
returns c =
    let a = c.args in
    from-fn c.from_fn.result (λ i. bit_in i (take c.least-n.result a.table)) (λ i y q k. search rules) c.from_fn.ensures.items ∙ ap (λ (n : ℕ). all_bits (take n a.table)) c.least-n.ensures
