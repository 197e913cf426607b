-- `write_cover::add_lines` meets its contract.
use mathlib.Core.Path.{sym, ap, ◌∙◌}
use mathlib.Core.List.{List, [], ◌∷◌}
use Prim.Native.Nat.{ℕ}
use Rattle.rules.specs.Text.{bytes}
use Rattle.write_parts.specs.Parts.{added_all}
use Rattle.write_parts.proofs.Adding.{all_one, all-behind}
use Rattle.write_cover.proofs.Whole.{cover-text}
use Rattle.write_cover.proofs.add_lines.Goals as goal

pub returns : goal.returns
returns c =
    let a = c.args in
    all-behind _ _ _ _ _ c.add_counts-rows.ensures
    (all-behind _ (bytes ".e\n" ∷ []) _ _ _ c.add_rows-end.ensures (c.add_line.ensures ∙ sym (all_one (bytes ".e\n") _)))
    ∙ ap (λ (ls : List (List ℕ)). added_all ls (a.part, a.out.now)) (cover-text a.t a.bits.now c.printed_count-printed.ensures)
