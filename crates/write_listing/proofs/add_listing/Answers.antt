-- `write_listing::add_listing` meets its contract: beyond the limits nothing is added.
use mathlib.Core.Path.{sym, ap, ◌∙◌}
use mathlib.Core.List.{List, [], ◌∷◌}
use Prim.Native.Nat.{ℕ}
use Rattle.rules.specs.Text.{bytes}
use Rattle.write_parts.specs.Parts.{added_all}
use Rattle.write_parts.proofs.Adding.{all_none, all_one, all_first, all-behind}
use Rattle.write_listing.specs.Listings.{Narrow}
use Rattle.write_listing.proofs.Whole.{listing-parts, narrow-head, lines-narrow, lines-beyond}
use Rattle.write_listing.proofs.add_listing.Goals.{Else-not-is_narrow}
use Rattle.write_listing.proofs.add_listing.Goals as goal

-- behind the test the head is within the limits
within : (c : Else-not-is_narrow) → Narrow c.args.t.head
within c = narrow-head c.args.t.head (sym c.is_narrow.ensures ∙ c.if-not-is_narrow.false)

pub returns-then-not-is_narrow : goal.returns-then-not-is_narrow
returns-then-not-is_narrow c =
    sym (ap (λ (ls : List (List ℕ)). added_all ls (c.args.part, c.args.out.now)) (lines-beyond c.args.t (sym c.is_narrow.ensures ∙ c.if-not-is_narrow.true))
    ∙ all_none (c.args.part, c.args.out.now))

pub add_rows-rows-requires : goal.add_rows-rows-requires
add_rows-rows-requires c = within (goal.at.add_rows-rows-requires c).Else-not-is_narrow

pub returns : goal.returns
returns c =
    let a = c.args in
    all_first _ _ _ _ _ c.add_head-head.ensures
    (all-behind _ (bytes "EN\n" ∷ []) _ _ _ c.add_rows-rows.ensures (c.add_line.ensures ∙ sym (all_one (bytes "EN\n") _)))
    ∙ ap (λ (ls : List (List ℕ)). added_all ls (a.part, a.out.now)) (listing-parts a.t ∙ sym (lines-narrow a.t (within (goal.at.returns c).Else-not-is_narrow)))
