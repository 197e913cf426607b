-- `write_cover::add_rows` meets its contract: with the lines of the rows that are still to come, what is added is all of them.
use mathlib.Core.Path.{◌≡◌, sym, ap, ◌∙◌}
use mathlib.Core.List.{List}
use Prim.Native.Nat.{ℕ, ◌+◌}
use native.Mathlib.Omega.{arith}
use borrow.Author.Rules.{rules}
use lib.ListN.{length, drop}
use Rattle.rules.specs.Listing.{all_rows}
use Rattle.rules.specs.Cover.{printed_rows}
use Rattle.rules.specs.declared.Row.{Row}
use Rattle.write_rows.specs.Rows.{row_count}
use Rattle.write_rows.proofs.Counted.{count-all, row-next, row-end}
use Rattle.write_parts.specs.Parts.{added_all}
use Rattle.write_parts.proofs.Adding.{all_none, all_append}
use Rattle.write_cover.specs.Covers.{printed_text, row_texts}
use Rattle.write_cover.proofs.RowTexts.{texts-first, texts-end}
use Rattle.write_cover.proofs.add_rows.Goals.{Start}
use Rattle.write_cover.proofs.add_rows.Goals as goal

counted : (c : Start) → row_count c.args.t.head c.args.t.rows ≡ length (all_rows c.args.t)
counted c = count-all c.args.t (search rules) (search rules)

pub loop-k-preserved : goal.loop-k-preserved
loop-k-preserved c =
    let a = c.args in
    let texts : List Row → List (List ℕ) = λ rs. row_texts a.t.head a.bits.now (all_rows a.t) (printed_rows a.t.head a.bits.now rs) in
    let printed = ap (λ (q : Row). added_all (printed_text a.t.head a.bits.now c.row_of-row.result q) (c.loop-k.to, c.loop-k.out)) c.kept_row-kept.ensures in
    let all = c.row_count-k-end.ensures ∙ counted (goal.at.loop-k-preserved c).Start in
    let here = row-next a.t c.loop-k.k all (omega arith) c.row_of-row.ensures.listed in
    ap (added_all (texts (drop (c.loop-k.k + 1) (all_rows a.t)))) (c.add_printed-to.ensures ∙ printed)
    ∙ sym (ap (λ (ls : List (List ℕ)). added_all ls (c.loop-k.to, c.loop-k.out)) (texts-first a.t.head a.bits.now (all_rows a.t) c.row_of-row.result _ _ here) ∙ all_append _ _ (c.loop-k.to, c.loop-k.out))
    ∙ c.loop-k.invariant

pub returns : goal.returns
returns c =
    let a = c.args in
    let all = c.row_count-k-end.ensures ∙ counted (goal.at.returns c).Start in
    let none = row-end a.t c.loop-k.k all (omega arith) in
    sym (ap (λ (ls : List (List ℕ)). added_all ls (c.loop-k.to, c.loop-k.out)) (texts-end a.t.head a.bits.now (all_rows a.t) _ none) ∙ all_none (c.loop-k.to, c.loop-k.out))
    ∙ c.loop-k.invariant
