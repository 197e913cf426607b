-- A number in decimal, digit by digit: any bound that is large enough gives the same digits, no other byte stands among them, and they read back as the number.
use Rattle.std.specs.Prelude.{Option, Some, None}
use mathlib.Core.Path.{◌≡◌, refl, sym, ap, ◌∙◌}
use mathlib.Core.Bool.{Bool, true, false, ◌&&◌, cond, true≢false}
use mathlib.Core.List.{List, [], ◌∷◌, ◌++◌}
use Prim.Native.Nat.{ℕ, zero, suc, ◌+◌, ◌*◌, ◌-◌, ◌/◌, ◌%◌, ◌^◌, ◌≤◌, ◌<◌}
use native.Mathlib.Nat.{pow-suc}
use native.Mathlib.Omega.{arith}
use lib.Dec.{leb, ltb}
use borrow.Author.Tests.{le-leb, lt-ltb, le-ltb, ltb-true, ltb-false}
use lib.ListN.{length, length-append}
use Rattle.rules.specs.Text.{nought, nine, digits_of, decimal_in, decimal}
use Rattle.rules.proofs.Fields.{Without, none, more, without-append}

-- one digit, whatever the bound
in-low : (f v : ℕ) → v < 10 → decimal_in f v ≡ (nought + v) ∷ []
unfolding decimal_in
in-low zero v h =
    let e : v % 10 ≡ v = omega arith in
    rw e
in-low (suc f) v h = rw (lt-ltb v 10 h, decimal_in)

-- the digits before the last, and the last
in-more : (f v : ℕ) → 10 ≤ v → decimal_in (suc f) v ≡ decimal_in f (v / 10) ++ ((nought + v % 10) ∷ [])
unfolding decimal_in
in-more f v h = rw (le-ltb v 10 h, decimal_in)

in-bound : (f g v : ℕ) → v ≤ f → v ≤ g → decimal_in f v ≡ decimal_in g v
in-bound zero g v h k = in-low zero v (omega arith) ∙ sym (in-low g v (omega arith))
in-bound (suc f) zero v h k = in-low (suc f) v (omega arith) ∙ sym (in-low zero v (omega arith))
in-bound (suc f) (suc g) v h k = go (ltb v 10) refl (in-bound f g (v / 10))
  where
    go : (t : Bool) → ltb v 10 ≡ t → (v / 10 ≤ f → v / 10 ≤ g → decimal_in f (v / 10) ≡ decimal_in g (v / 10)) → decimal_in (suc f) v ≡ decimal_in (suc g) v
    go true e ih = in-low (suc f) v (ltb-true v 10 e) ∙ sym (in-low (suc g) v (ltb-true v 10 e))
    go false e ih =
        let b : 10 ≤ v = ltb-false v 10 e in
        in-more f v b
        ∙ ap (λ (l : List ℕ). l ++ ((nought + v % 10) ∷ [])) (ih (omega arith) (omega arith))
        ∙ sym (in-more g v b)

-- ---- the two cases of a number's digits

pub decimal-low : (v : ℕ) → v < 10 → decimal v ≡ (nought + v) ∷ []
unfolding decimal
decimal-low v h = in-low v v h

pub decimal-more : (v : ℕ) → 10 ≤ v → decimal v ≡ decimal (v / 10) ++ ((nought + v % 10) ∷ [])
unfolding decimal
decimal-more v h =
    in-bound v (suc v) v (omega arith) (omega arith)
    ∙ in-more v v h
    ∙ ap (λ (l : List ℕ). l ++ ((nought + v % 10) ∷ [])) (in-bound v (v / 10) (v / 10) (omega arith) (omega arith))

-- ---- how many digits

-- a number below ten to the k + 1 has at most k + 1 digits
pub decimal-length : (k v : ℕ) → v < 10 ^ (k + 1) → length (decimal v) ≤ k + 1
decimal-length zero v h = rw (decimal-low v h) (omega arith)
decimal-length (suc k) v h = go (ltb v 10) refl (decimal-length k (v / 10))
  where
    go : (t : Bool) → ltb v 10 ≡ t → (v / 10 < 10 ^ (k + 1) → length (decimal (v / 10)) ≤ k + 1) → length (decimal v) ≤ suc k + 1
    go true e ih = rw (decimal-low v (ltb-true v 10 e)) (omega arith)
    go false e ih =
        let s : suc k + 1 ≡ suc (k + 1) = omega arith in
        let p : 10 ^ (suc k + 1) ≡ 10 ^ (k + 1) * 10 = ap (λ (n : ℕ). 10 ^ n) s ∙ pow-suc 10 (k + 1) in
        let l : length (decimal (v / 10)) ≤ k + 1 = ih (omega arith) in
        rw (decimal-more v (ltb-false v 10 e), length-append) (omega arith)

-- ---- no other byte

-- a byte below the digits, as a space and LF are
module _ (q : ℕ) (low : q < nought) where
  digit-without : (d : ℕ) → Without q ((nought + d) ∷ [])
  digit-without d = more {x = nought + d} (λ e. omega arith) none

  without_in : (f v : ℕ) → Without q (decimal_in f v)
  unfolding decimal_in
  without_in zero v = digit-without (v % 10)
  without_in (suc f) v = go (ltb v 10) refl (without_in f (v / 10))
    where
      go : (t : Bool) → ltb v 10 ≡ t → Without q (decimal_in f (v / 10)) → Without q (decimal_in (suc f) v)
      go true e h = rw (e, decimal_in) (digit-without v)
      go false e h = rw (e, decimal_in) (without-append h (digit-without (v % 10)))

  pub decimal-without : (v : ℕ) → Without q (decimal v)
  unfolding decimal
  decimal-without v = without_in v v

-- ---- read back

-- the number in a numeral
number_in : Option ℕ → ℕ
number_in (Some v) = v
number_in None = 0

-- the numeral is a number
is_number : Option ℕ → Bool
is_number (Some v) = true
is_number None = false

-- one digit behind those that make v
one_more : (a d v : ℕ) (xs : List ℕ) → d < 10 → digits_of a xs ≡ Some v → digits_of a (xs ++ ((nought + d) ∷ [])) ≡ Some (v * 10 + d)
unfolding digits_of number_in is_number
one_more a d v [] h e =
    let same : a ≡ v = ap number_in e in
    let value : a * 10 + (nought + d - nought) ≡ v * 10 + d = omega arith in
    rw (le-leb nought (nought + d) (omega arith), le-leb (nought + d) nine (omega arith)) (ap Some value)
one_more a d v (x ∷ xs) h e = go (leb nought x && leb x nine) e (one_more (a * 10 + (x - nought)) d v xs h)
  where
    go : (t : Bool) → cond t (digits_of (a * 10 + (x - nought)) xs) None ≡ Some v
        → (digits_of (a * 10 + (x - nought)) xs ≡ Some v → digits_of (a * 10 + (x - nought)) (xs ++ ((nought + d) ∷ [])) ≡ Some (v * 10 + d))
        → cond t (digits_of (a * 10 + (x - nought)) (xs ++ ((nought + d) ∷ []))) None ≡ Some (v * 10 + d)
    go true q later = later q
    go false q later = absurd (true≢false (sym (ap is_number q)))

pub decimal-read : (v : ℕ) → digits_of 0 (decimal v) ≡ Some v
unfolding digits_of
decimal-read v = reads v v (omega arith)
  where
    reads : (f v : ℕ) → v ≤ f → digits_of 0 (decimal v) ≡ Some v
    reads zero v h = rw (decimal-low v (omega arith)) (one_more 0 v 0 [] (omega arith) refl ∙ ap Some (omega arith))
    reads (suc f) v h = go (ltb v 10) refl (reads f (v / 10))
      where
        go : (t : Bool) → ltb v 10 ≡ t → (v / 10 ≤ f → digits_of 0 (decimal (v / 10)) ≡ Some (v / 10)) → digits_of 0 (decimal v) ≡ Some v
        go true e ih = rw (decimal-low v (ltb-true v 10 e)) (one_more 0 v 0 [] (ltb-true v 10 e) refl ∙ ap Some (omega arith))
        go false e ih =
            let b : 10 ≤ v = ltb-false v 10 e in
            rw (decimal-more v b) (one_more 0 (v % 10) (v / 10) (decimal (v / 10)) (omega arith) (ih (omega arith)) ∙ ap Some (omega arith))

-- two numbers that are written alike are one
pub decimal-same : (a b : ℕ) → decimal a ≡ decimal b → a ≡ b
unfolding number_in
decimal-same a b e = ap number_in (sym (decimal-read a) ∙ ap (digits_of 0) e ∙ decimal-read b)
