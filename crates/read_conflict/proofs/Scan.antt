-- The scan for two rows that clash, row by row.
use mathlib.Core.Path.{◌≡◌, refl, ap, ◌∙◌}
use mathlib.Core.Bool.{Bool, true, false, cond}
use mathlib.Core.List.{List, [], ◌∷◌}
use Prim.Native.Nat.{ℕ, ◌+◌, ◌≤◌, ◌<◌}
use lib.ListN.{length, get_or, take, drop}
use Rattle.rules.specs.Listing.{no_row, blank, clash, clash_with, or_else, conflict}
use Rattle.rules.specs.declared.Listing.{Listing}
use Rattle.rules.specs.declared.Row.{Row}
use Rattle.rules.specs.declared.Refusal.TheVariants.{Conflict}
use Rattle.rules.specs.Refusals.{Verdict, refused}
use Rattle.rules.proofs.Rows.{row_here, row-none}
use Rattle.std.specs.Prelude.{Ok}

-- ---- one row and those behind it

with-cons : (a b : Row) (bs : List Row) {t : Bool} → clash a b ≡ t → clash_with a (b ∷ bs) ≡ cond t (refused Conflict b.line) (clash_with a bs)
unfolding clash_with
with-cons a b bs e = go (clash a b) ∙ ap (λ (t : Bool). cond t (refused Conflict b.line) (clash_with a bs)) e
  where
    go : (t : Bool) → elim t [ true ↦ refused Conflict b.line | false ↦ clash_with a bs ] ≡ cond t (refused Conflict b.line) (clash_with a bs)
    go true = refl
    go false = refl

-- the first rows of a table, of which there are n
module _ (rows : ℕ) (table : List Row) (n : ℕ) (all : length (take rows table) ≡ n) where
  -- a listing that has them
  abbrev listed : Listing
  listed = record { head = blank.head; rows = rows; table = table; dichotomies = 0; asked = []; said = []; given = 0 }

  pub with-here : (a : Row) (j : ℕ) {b : Bool} → j < n → clash a (get_or table j no_row) ≡ b
      → clash_with a (drop j (take rows table)) ≡ cond b (refused Conflict (get_or table j no_row).line) (clash_with a (drop (j + 1) (take rows table)))
  with-here a j h e = ap (clash_with a) (row_here listed n all j h) ∙ with-cons a (get_or table j no_row) (drop (j + 1) (take rows table)) e

  pub with_none : (a : Row) (j : ℕ) → n ≤ j → clash_with a (drop j (take rows table)) ≡ Ok tt
  unfolding clash_with
  with_none a j h = rw (row-none listed n all j h)

  pub conflict-here : (i : ℕ) {v : Verdict} → i < n → clash_with (get_or table i no_row) (drop (i + 1) (take rows table)) ≡ v
      → conflict (drop i (take rows table)) ≡ or_else v (conflict (drop (i + 1) (take rows table)))
  unfolding conflict
  conflict-here i h e = rw (row_here listed n all i h, e)

  pub conflict-none : (i : ℕ) → n ≤ i → conflict (drop i (take rows table)) ≡ Ok tt
  unfolding conflict
  conflict-none i h = rw (row-none listed n all i h)
