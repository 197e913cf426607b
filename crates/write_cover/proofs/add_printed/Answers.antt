-- `write_cover::add_printed` meets its contract.
use mathlib.Core.Path.{sym, ap, ◌∙◌}
use mathlib.Core.List.{List}
use Prim.Native.Nat.{ℕ}
use Rattle.write_parts.specs.Parts.{added_all}
use Rattle.write_parts.proofs.Adding.{all_none, all_one}
use Rattle.write_cover.proofs.RowTexts.{text_out, text_in}
use Rattle.write_cover.proofs.add_printed.Goals as goal

pub returns-then-is_left_out : goal.returns-then-is_left_out
returns-then-is_left_out c =
    let a = c.args in
    sym (ap (λ (ls : List (List ℕ)). added_all ls (a.part, a.out.now)) (text_out a.head a.bits.now a.row a.kept (sym c.is_left_out.ensures ∙ c.if-is_left_out.true))
    ∙ all_none (a.part, a.out.now))

pub returns : goal.returns
returns c =
    let a = c.args in
    c.add_row.ensures
    ∙ sym (ap (λ (ls : List (List ℕ)). added_all ls (a.part, a.out.now)) (text_in a.head a.bits.now a.row a.kept (sym c.is_left_out.ensures ∙ c.if-is_left_out.false))
    ∙ all_one _ (a.part, a.out.now))
