-- A set's value in each bit, as a loop over the bits writes it; and what it is where `mixed` is 1.
use mathlib.Core.Path.{◌≡◌, refl, ap₂}
use mathlib.Core.Bool.{Bool, true, false, not, cond}
use mathlib.Core.List.{List, [], ◌∷◌, ◌++◌}
use Prim.Native.Nat.{ℕ, ◌+◌, ◌<◌}
use lib.Dec.{eqb}
use lib.Bits.{bit_and}
use lib.ListN.{length, take, get_or}
use borrow.Author.Tests.{eq-eqb, ne_eqb}
use Rattle.rules.specs.Text.{digit, nought, one}
use Rattle.rules.specs.Report.{digits}
use Rattle.rules.specs.Cover.{next_code}
use Rattle.write_pen.specs.Pen.{value_at, values_text}
use Rattle.write_pen.proofs.Growing.{bytes-of-one}

-- ---- one bit, and one bit more

pub value-nought : (g mixed b : ℕ) → bit_and b g ≡ 0 → nought ≡ value_at g mixed b
unfolding value_at
value-nought g mixed b e = rw (eq-eqb (bit_and b g) 0 e)

pub value-one : (g mixed b : ℕ) → (bit_and b g ≡ 0 → ⊥) → bit_and b g ≡ g → one ≡ value_at g mixed b
unfolding value_at
value-one g mixed b e f = rw (ne_eqb (bit_and b g) 0 e, eq-eqb (bit_and b g) g f)

pub value-mixed : (g mixed b : ℕ) → (bit_and b g ≡ 0 → ⊥) → (bit_and b g ≡ g → ⊥) → mixed ≡ value_at g mixed b
unfolding value_at
value-mixed g mixed b e f = rw (ne_eqb (bit_and b g) 0 e, ne_eqb (bit_and b g) g f)

pub values-none : (g mixed : ℕ) → values_text [] g mixed ≡ []
unfolding values_text
values-none g mixed = refl

pub values-more : (g mixed : ℕ) (bits : List ℕ) (k : ℕ) {b : ℕ} → k < length bits → b ≡ value_at g mixed (get_or bits k 0)
    → values_text (take (k + 1) bits) g mixed ≡ values_text (take k bits) g mixed ++ (b ∷ [])
unfolding values_text
values-more g mixed bits k h e = bytes-of-one (value_at g mixed) bits k 0 h e

-- ---- where `mixed` is 1, the value is 1 if any member has it

value-any : (g b : ℕ) → value_at g one b ≡ nought + digit (not (eqb (bit_and b g) 0))
unfolding value_at
value-any g b = go (eqb (bit_and b g) 0) (eqb (bit_and b g) g)
  where
    go : (x y : Bool) → cond x nought (cond y one one) ≡ nought + digit (not x)
    go true y = refl
    go false true = refl
    go false false = refl

-- as in the code of a next state
pub values-any : (g : ℕ) (bits : List ℕ) → values_text bits g one ≡ digits (next_code bits g)
unfolding values_text
values-any g [] = refl
values-any g (b ∷ bits) = ap₂ ◌∷◌ (value-any g b) (values-any g bits)
