-- A field against a mark of two bytes.
use mathlib.Core.Path.{◌≡◌, refl, ap}
use mathlib.Core.Bool.{Bool, false, ◌&&◌, and-true, and-false}
use mathlib.Core.List.{List, [], ◌∷◌}
use Prim.Native.Nat.{ℕ, suc}
use native.Mathlib.Omega.{arith}
use lib.ListN.{length, get_or}
use lib.Dec.{eqb}
use Rattle.rules.specs.Text.{same}

-- bytes of unlike number are not the same
pub same-unlike : (xs ys : List ℕ) → (length xs ≡ length ys → ⊥) → same xs ys ≡ false
unfolding same
same-unlike [] [] h = absurd (h refl)
same-unlike [] (y ∷ ys) h = refl
same-unlike (x ∷ xs) [] h = refl
same-unlike (x ∷ xs) (y ∷ ys) h = rw (same-unlike xs ys (λ e. h (ap suc e))) (and-false (eqb x y))

-- two bytes and two bytes
pub same-two : (xs : List ℕ) (a b : ℕ) {t : Bool} → length xs ≡ 2 → eqb (get_or xs 0 0) a ≡ t → same xs (a ∷ (b ∷ [])) ≡ (t && eqb (get_or xs 1 0) b)
unfolding same
same-two [] a b h e = absurd (omega arith)
same-two (x ∷ []) a b h e = absurd (omega arith)
same-two (x ∷ (y ∷ (z ∷ xs))) a b h e = absurd (omega arith)
same-two (x ∷ (y ∷ [])) a b h e = rw (e, and-true (eqb y b))

pub ruleset two_bytes = (same-unlike, same-two)
