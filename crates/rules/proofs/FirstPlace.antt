-- The first place of a list that has p: where it is, entry by entry, and that what stands there has p.
use mathlib.Core.Path.{◌≡◌, refl, ap, ◌∙◌}
use mathlib.Core.Bool.{Bool, true, false, cond}
use mathlib.Core.List.{List, [], ◌∷◌}
use Prim.Native.Nat.{ℕ, suc, ◌+◌, ◌≤◌, ◌<◌}
use native.Mathlib.Numerals.{add-one}
use native.Mathlib.Omega.{arith}
use lib.ListN.{length, get_or, drop, drop_of_length-le}
use lib.Seq.{drop-cons}
use Rattle.rules.specs.KissLines.{first_place}

module _ {A : Type 0} (p : A → Bool) where
  place-cons : (x : A) (xs : List A) {b : Bool} → p x ≡ b → first_place p (x ∷ xs) ≡ cond b 0 (suc (first_place p xs))
  unfolding first_place
  place-cons x xs e = go (p x) ∙ ap (λ (b : Bool). cond b 0 (suc (first_place p xs))) e
    where
      go : (b : Bool) → elim b [ true ↦ 0 | false ↦ suc (first_place p xs) ] ≡ cond b 0 (suc (first_place p xs))
      go true = refl
      go false = refl

  -- ---- entry by entry

  place_here : (l : List A) (d : A) (i : ℕ) {b : Bool} → i < length l → p (get_or l i d) ≡ b
      → first_place p (drop i l) ≡ cond b 0 (first_place p (drop (i + 1) l) + 1)
  place_here l d i {b} h e = ap (first_place p) (rw (add-one, drop-cons l i d)) ∙ place-cons (get_or l i d) (drop (i + 1) l) e ∙ rw (add-one (first_place p (drop (i + 1) l)))

  place_end : (l : List A) (i : ℕ) → length l ≤ i → first_place p (drop i l) ≡ 0
  unfolding first_place
  place_end l i h = rw (drop_of_length-le l {i = i})

  -- what is passed so far, and the first place of the rest
  abbrev pub from : List A → ℕ → ℕ
  from l i = i + first_place p (drop i l)

  pub from_start : (l : List A) → from l 0 ≡ first_place p l
  from_start l = omega arith

  pub from-here : (l : List A) (d : A) (i : ℕ) → i < length l → p (get_or l i d) ≡ true → from l i ≡ i
  from-here l d i h e = rw (place_here l d i h e) (omega arith)

  pub from_on : (l : List A) (d : A) (i : ℕ) → i < length l → p (get_or l i d) ≡ false → from l i ≡ from l (i + 1)
  from_on l d i h e = rw (place_here l d i h e) (omega arith)

  pub from_end : (l : List A) (i : ℕ) → length l ≤ i → from l i ≡ i
  from_end l i h = rw (place_end l i h) (omega arith)

  -- ---- the place that is found

  pub place-most : (l : List A) → first_place p l ≤ length l
  unfolding first_place
  place-most [] = omega arith
  place-most (x ∷ xs) = go (p x) (place-most xs)
    where
      go : (b : Bool) → first_place p xs ≤ length xs → elim b as (λ _. ℕ) [ true ↦ 0 | false ↦ suc (first_place p xs) ] ≤ suc (length xs)
      go true h = omega arith
      go false h = omega arith

  pub place-has : (l : List A) (d : A) → first_place p l < length l → p (get_or l (first_place p l) d) ≡ true
  unfolding first_place
  place-has [] d h = absurd (omega arith)
  place-has (x ∷ xs) d h = go (p x) refl h (λ g. place-has xs d g)
    where
      go : (b : Bool) → p x ≡ b → elim b as (λ _. ℕ) [ true ↦ 0 | false ↦ suc (first_place p xs) ] < suc (length xs)
          → (first_place p xs < length xs → p (get_or xs (first_place p xs) d) ≡ true)
          → p (get_or (x ∷ xs) (elim b as (λ _. ℕ) [ true ↦ 0 | false ↦ suc (first_place p xs) ]) d) ≡ true
      go true e h f = e
      go false e h f = f (omega arith)
