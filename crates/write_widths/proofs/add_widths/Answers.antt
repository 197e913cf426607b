-- `write_widths::add_widths` meets its contract.
use lib.ListN.{length}
use Rattle.rules.specs.Limits.{most_bits}
use Rattle.rules.specs.Text.{bytes}
use Rattle.write_parts.specs.Parts.{added_all}
use Rattle.write_parts.proofs.Adding.{all_one, all-behind}
use Rattle.write_widths.proofs.Lines.{widths-parts}
use mathlib.Core.Path.{◌≡◌, sym, ap, ◌∙◌}
use mathlib.Core.List.{List, [], ◌∷◌}
use Prim.Native.Nat.{ℕ}
use borrow.Author.Rules.{rules}
use Rattle.write_widths.proofs.add_widths.Goals.{Start}
use Rattle.write_widths.proofs.add_widths.Goals as goal

-- the places of the code
long : (c : Start) → length c.args.e.bits ≡ most_bits
long c = search rules

pub returns : goal.returns
returns c =
    all-behind _ (bytes "EN\n" ∷ []) _ _ _ c.add_lines-to.ensures (c.add_line.ensures ∙ sym (all_one (bytes "EN\n") _))
    ∙ ap (λ (ls : List (List ℕ)). added_all ls (c.args.part, c.args.out.now)) (widths-parts c.args.fs.now c.args.first c.args.e (long (goal.at.returns c).Start) c.least-width.ensures c.least-end.ensures c.least-front.ensures)
