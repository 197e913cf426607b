-- A list of families gone through from the front: what is left of it begins with the three numbers of a family, or has none.
use mathlib.Core.Path.{◌≡◌, sym, ap, ◌∙◌}
use mathlib.Core.List.{List, ◌∷◌}
use Prim.Native.Nat.{ℕ, suc, ◌+◌, ◌-◌, ◌^◌, ◌≤◌, ◌<◌}
use native.Mathlib.Numerals.{add-one}
use native.Mathlib.Omega.{arith}
use lib.ListN.{length, get_or, drop, length-drop}
use lib.Seq.{drop-cons}

-- a list of masks of 64 digits
abbrev pub Words : List ℕ → Type 0
Words l = (i : ℕ) → get_or l i 0 < 2 ^ 64

pub words-three : (a f o : ℕ) (fs : List ℕ) → Words (a ∷ (f ∷ (o ∷ fs))) → Words fs
words-three a f o fs h i = h (suc (suc (suc i)))

-- element i, and those behind it
pub cons-left : (l : List ℕ) (i : ℕ) → i < length l → drop i l ≡ get_or l i 0 ∷ drop (i + 1) l
cons-left l i h = drop-cons l i 0 h ∙ ap (λ (k : ℕ). get_or l i 0 ∷ drop k l) (sym (add-one i))

module _ (fs : List ℕ) (i : ℕ) where
  -- a family, and those behind it
  pub family-left : 2 < length fs - i → drop i fs ≡ get_or fs i 0 ∷ (get_or fs (i + 1) 0 ∷ (get_or fs (i + 2) 0 ∷ drop (i + 3) fs))
  family-left h =
      let e : i + 1 + 1 ≡ i + 2 = omega arith in
      let f : i + 2 + 1 ≡ i + 3 = omega arith in
      cons-left fs i (omega arith)
      ∙ ap (λ (l : List ℕ). get_or fs i 0 ∷ l)
      (cons-left fs (i + 1) (omega arith)
      ∙ ap (λ (l : List ℕ). get_or fs (i + 1) 0 ∷ l)
      (ap (λ (k : ℕ). drop k fs) e ∙ cons-left fs (i + 2) (omega arith) ∙ ap (λ (k : ℕ). get_or fs (i + 2) 0 ∷ drop k fs) f))

  -- none is left
  pub short-left : length fs - i ≤ 2 → length (drop i fs) ≤ 2
  short-left h = omega (arith, length-drop i fs)
