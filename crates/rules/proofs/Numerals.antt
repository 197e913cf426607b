-- A number that is written in decimal is read back by the rule for a field: one to four digits, no leading zero except 0 itself.
use Rattle.std.specs.Prelude.{Some}
use mathlib.Core.Path.{◌≡◌, refl}
use mathlib.Core.Bool.{Bool, true, false, ◌||◌, not, or-true}
use mathlib.Core.List.{[], ◌∷◌}
use Prim.Native.Nat.{ℕ, zero, suc, ◌+◌, ◌/◌, ◌%◌, ◌≤◌, ◌<◌}
use native.Mathlib.Omega.{arith}
use lib.Dec.{ltb, eqb}
use lib.ListN.{length, get_or, length-append, get_or-append}
use borrow.Author.Tests.{ltb-true, ltb-false, le-leb, ne_eqb}
use Rattle.rules.specs.Text.{nought, numeral_of, decimal}
use Rattle.rules.proofs.Decimal.{decimal-low, decimal-more, decimal-length, decimal-read}

-- there is a digit
pub some-digit : (v : ℕ) → 1 ≤ length (decimal v)
some-digit v = go (ltb v 10) refl
  where
    go : (t : Bool) → ltb v 10 ≡ t → 1 ≤ length (decimal v)
    go true e = rw (decimal-low v (ltb-true v 10 e)) (omega arith)
    go false e = rw (decimal-more v (ltb-false v 10 e), length-append) (omega arith)

-- the first is no 0, but for the number 0
first-digit : (f v : ℕ) → v ≤ f → 1 ≤ v → nought < get_or (decimal v) 0 0
first-digit zero v h k = absurd (omega arith)
first-digit (suc f) v h k = go (ltb v 10) refl (first-digit f (v / 10))
  where
    go : (t : Bool) → ltb v 10 ≡ t → (v / 10 ≤ f → 1 ≤ v / 10 → nought < get_or (decimal (v / 10)) 0 0) → nought < get_or (decimal v) 0 0
    go true e ih = rw (decimal-low v (ltb-true v 10 e)) (omega arith)
    go false e ih =
        let b : 10 ≤ v = ltb-false v 10 e in
        let some : 0 < length (decimal (v / 10)) = some-digit (v / 10) in
        rw (decimal-more v b, get_or-append (decimal (v / 10)) ((nought + v % 10) ∷ []) 0 0 some) (ih (omega arith) (omega arith))

no-leading : (v : ℕ) → (eqb (length (decimal v)) 1 || not (eqb (get_or (decimal v) 0 0) nought)) ≡ true
no-leading v = go (ltb v 10) refl
  where
    go : (t : Bool) → ltb v 10 ≡ t → (eqb (length (decimal v)) 1 || not (eqb (get_or (decimal v) 0 0) nought)) ≡ true
    go true e = rw (decimal-low v (ltb-true v 10 e))
    go false e =
        let b : 10 ≤ v = ltb-false v 10 e in
        let o : eqb (get_or (decimal v) 0 0) nought ≡ false = ne_eqb (get_or (decimal v) 0 0) nought (λ q. omega (arith, first-digit v v (omega arith) (omega arith))) in
        rw o (or-true (eqb (length (decimal v)) 1))

pub numeral-read : (v : ℕ) → v < 10000 → numeral_of (decimal v) ≡ Some v
unfolding numeral_of
numeral-read v h =
    rw (le-leb 1 (length (decimal v)) (some-digit v), le-leb (length (decimal v)) 4 (decimal-length 3 v h), no-leading v)
    (decimal-read v)
