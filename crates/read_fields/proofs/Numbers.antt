-- A field's number, digit by digit.
use Rattle.std.specs.Prelude.{Some, None}
use mathlib.Core.Path.{◌≡◌}
use mathlib.Core.Bool.{Bool, true, ◌&&◌, cond}
use mathlib.Core.List.{List}
use Prim.Native.Nat.{ℕ, suc, ◌+◌, ◌*◌, ◌-◌, ◌≤◌, ◌<◌, ◌^◌}
use native.Mathlib.Nat.{pow-suc, pow-le-pow_right}
use native.Mathlib.Numerals.{add-one}
use native.Mathlib.Omega.{arith}
use lib.ListN.{length, get_or, drop, drop_of_length-le}
use lib.Dec.{leb}
use borrow.Author.Tests.{leb-true}
use Rattle.sets.proofs.Every.{and_first, and_second}
use Rattle.rules.specs.Text.{nought, nine, digits_of, numeral_of}
use Rattle.read_fields.specs.Fields.{number_shaped}
use Rattle.read_fields.proofs.Characters.{drop-one}

pub digits_step : (v : ℕ) (l : List ℕ) (i : ℕ) {t : Bool} → i < length l → (leb nought (get_or l i 0) && leb (get_or l i 0) nine) ≡ t
    → digits_of v (drop i l) ≡ cond t (digits_of (v * 10 + (get_or l i 0 - nought)) (drop (i + 1) l)) None
unfolding digits_of
digits_step v l i h e = rw (drop-one l i h, e)

pub digits-end : (v : ℕ) (l : List ℕ) (i : ℕ) → length l ≤ i → digits_of v (drop i l) ≡ Some v
unfolding digits_of
digits-end v l i h = rw (drop_of_length-le l {i = i})

-- a number is made of its digits where it has a number's shape
pub numeral-shaped : (f : List ℕ) {t : Bool} → number_shaped f ≡ t → numeral_of f ≡ cond t (digits_of 0 f) None
unfolding number_shaped numeral_of
numeral-shaped f e = rw e

pub shaped-short : (f : List ℕ) → number_shaped f ≡ true → length f ≤ 4
unfolding number_shaped
shaped-short f e = leb-true _ _ (and_second (leb 1 (length f)) _ (and_first (leb 1 (length f) && leb (length f) 4) _ e))

-- the digit at place i, behind i others that made v: it is one, and there is room for it
pub record NextDigit (x v i : ℕ) : Type 0 where
  pub low : nought ≤ x
  pub high : x ≤ nine
  pub fits : v * 10 + (x - nought) < 10000
  pub grows : v * 10 + (x - nought) < 10 ^ (i + 1)

pub next-digit : (x v i : ℕ) → (leb nought x && leb x nine) ≡ true → i < 4 → v < 10 ^ i → NextDigit x v i
next-digit x v i e h p =
    let l : nought ≤ x = leb-true _ _ (and_first (leb nought x) _ e) in
    let g : x ≤ nine = leb-true _ _ (and_second (leb nought x) _ e) in
    record {
      low = l;
      high = g;
      fits = omega (arith, pow-suc 10 i, pow-le-pow_right {n = 10} (omega arith) {i = suc i} {j = 4} (omega arith));
      grows = rw add-one (omega (arith, pow-suc 10 i));
    }
