-- Some entry of a list: where it stands, and what one entry says of the list.
use mathlib.Core.Path.{◌≡◌, refl, ap, ap₂, ◌∙◌}
use mathlib.Core.Bool.{Bool, true, false, ◌||◌, or-true}
use mathlib.Core.List.{List, [], ◌∷◌, ◌++◌}
use Prim.Native.Nat.{ℕ, zero, suc, ◌<◌}
use native.Mathlib.Omega.{arith}
use lib.ListN.{length, get_or}
use Rattle.rules.specs.Listing.{some}

module _ {A : Type 0} (d : A) where
  -- it stands somewhere
  pub some_at : (p : A → Bool) (xs : List A) → some p xs ≡ true → (k : ℕ) × (k < length xs) × (p (get_or xs k d) ≡ true)
  unfolding some
  some_at p [] e = let z : ◌≡◌ {A = ℕ} 0 1 = cc in absurd (omega arith)
  some_at p (x ∷ xs) e = go (p x) refl e (some_at p xs)
    where
      go : (b : Bool) → p x ≡ b → (b || some p xs) ≡ true → (some p xs ≡ true → (k : ℕ) × (k < length xs) × (p (get_or xs k d) ≡ true))
          → (k : ℕ) × (k < length (x ∷ xs)) × (p (get_or (x ∷ xs) k d) ≡ true)
      go true h e later = (0, omega arith, h)
      go false h e later = let r = later e in (suc r.0, omega (arith, r.1), r.2)

  -- one that stands there is some
  pub at_some : (p : A → Bool) (xs : List A) (k : ℕ) → k < length xs → p (get_or xs k d) ≡ true → some p xs ≡ true
  unfolding some
  at_some p [] k h e = absurd (omega arith)
  at_some p (x ∷ xs) zero h e = rw e
  at_some p (x ∷ xs) (suc k) h e = rw (at_some p xs k (omega arith) e) (or-true (p x))

  -- none, where none is
  pub none-some : (p : A → Bool) (xs : List A) → ((k : ℕ) → k < length xs → p (get_or xs k d) ≡ false) → some p xs ≡ false
  unfolding some
  none-some p [] h = refl
  none-some p (x ∷ xs) h = ap₂ ◌||◌ (h 0 (omega arith)) (none-some p xs (λ k l. h (suc k) (omega arith)))

  pub some-none : (p : A → Bool) (xs : List A) → some p xs ≡ false → (k : ℕ) → k < length xs → p (get_or xs k d) ≡ false
  some-none p xs e k h = go (p (get_or xs k d)) refl
    where
      go : (b : Bool) → p (get_or xs k d) ≡ b → p (get_or xs k d) ≡ false
      go true q = let z : ◌≡◌ {A = ℕ} 0 1 = cc (at_some p xs k h q) in absurd (omega arith)
      go false q = q

pub some-append : {A : Type 0} (p : A → Bool) (xs ys : List A) → some p (xs ++ ys) ≡ (some p xs || some p ys)
unfolding some
some-append p [] ys = refl
some-append p (x ∷ xs) ys = ap (λ (b : Bool). p x || b) (some-append p xs ys) ∙ or_assoc (p x) (some p xs) (some p ys)
  where
    or_assoc : (a b c : Bool) → (a || (b || c)) ≡ (a || b || c)
    or_assoc true b c = refl
    or_assoc false b c = refl

pub some-like : {A : Type 0} (p q : A → Bool) (xs : List A) → ((x : A) → p x ≡ q x) → some p xs ≡ some q xs
unfolding some
some-like p q [] h = refl
some-like p q (x ∷ xs) h = ap₂ ◌||◌ (h x) (some-like p q xs h)
