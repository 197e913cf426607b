-- The words of rows that have a property, row by row from the last as loops have them.
use mathlib.Core.Path.{◌≡◌, refl, sym, ap, ◌∙◌}
use mathlib.Core.Bool.{Bool, true, false}
use mathlib.Core.List.{List, map}
use Prim.Native.Nat.{ℕ, zero, suc, ◌+◌, ◌*◌, ◌-◌, ◌/◌, ◌%◌, ◌^◌, ◌≤◌, ◌<◌}
use native.Mathlib.Nat.{pow-suc, zero-add}
use native.Mathlib.Decide.{ℕ_discrete}
use native.Mathlib.Omega.{arith}
use lib.Dec.{eqb}
use lib.ListN.{length, get_or, set, length-map}
use lib.Seq.{ext_get_or, get_or-set_same, get_or-set_other}
use borrow.Author.Tests.{eqb-true, eqb-false}
use Rattle.sets.specs.Sets.{has, states_from}
use Rattle.sets.proofs.Members.{has-lt}
use Rattle.rules.specs.Text.{digit}
use Rattle.rules.proofs.Most.{states-length}
use Rattle.rules.proofs.Agreeing.{each-state}
use Rattle.judge_search.specs.Rows.{word_from}

pub digit-le : (b : Bool) → digit b ≤ 1
digit-le true = omega arith
digit-le false = omega arith

-- ---- one row

-- a digit of a mask, tested
pub digit-one : (m j : ℕ) → eqb (has m j) 1 ≡ true → 1 ≡ has m j
digit-one m j e = sym (eqb-true (has m j) 1 e)

pub digit-none : (m j : ℕ) → eqb (has m j) 1 ≡ false → 0 ≡ has m j
digit-none m j e = omega (arith, has-lt m j, eqb-false (has m j) 1 e)

pub digit-has : (m j : ℕ) → digit (eqb (has m j) 1) ≡ has m j
digit-has m j = go (eqb (has m j) 1) refl
  where
    go : (b : Bool) → eqb (has m j) 1 ≡ b → digit b ≡ has m j
    go true e = digit-one m j e
    go false e = digit-none m j e

-- ---- a word, from the last row

-- a row more, at the low end
pub rest-digits : (x : ℕ) (b : Bool) → (x * 2 + digit b) / 2 ≡ x
rest-digits x true = omega arith
rest-digits x false = omega arith

pub last-digit : (x : ℕ) (b : Bool) → (x * 2 + digit b) % 2 ≡ digit b
last-digit x true = omega arith
last-digit x false = omega arith

pub word_lt : (p : ℕ → Bool) (a k : ℕ) → word_from p a k < 2 ^ k
unfolding word_from
word_lt p a zero = omega arith
word_lt p a (suc k) = omega (arith, word_lt p (suc a) k, digit-le (p a), pow-suc 2 k)

module _ (p : ℕ → Bool) (a k : ℕ) (some : 0 < k) (few : k ≤ 64) where
  pub word_back : {w d : ℕ} → w ≡ word_from p (a + k) (64 - k) → d ≡ digit (p (a + (k - 1))) → w * 2 + d ≡ word_from p (a + (k - 1)) (64 - (k - 1))
  unfolding word_from
  word_back e f =
      let n : 64 - (k - 1) ≡ suc (64 - k) = omega arith in
      let q : suc (a + (k - 1)) ≡ a + k = omega arith in
      rw (e, f) (sym (ap (word_from p (a + (k - 1))) n ∙ ap (λ (b : ℕ). word_from p b (64 - k) * 2 + digit (p (a + (k - 1)))) q))

pub word_end : (p : ℕ → Bool) (a : ℕ) → 0 ≡ word_from p (a + 64) (64 - 64)
unfolding word_from
word_end p a = refl

pub word-all : (p : ℕ → Bool) (a k : ℕ) {w : ℕ} → k ≡ 0 → w ≡ word_from p (a + k) (64 - k) → w ≡ word_from p a 64
word-all p a k z e =
    let q : a + 0 ≡ a = omega arith in
    e ∙ rw z (ap (λ (b : ℕ). word_from p b 64) q)

-- ---- lists of words

-- a list that is filled place by place
pub filled : (f : ℕ → ℕ) (n : ℕ) (l : List ℕ) → length l ≡ n → ((k : ℕ) → k < n → get_or l k 0 ≡ f k) → l ≡ map f (states_from 0 n)
filled f n l e h =
    let long : length (map f (states_from 0 n)) ≡ n = length-map (states_from 0 n) f ∙ states-length 0 n in
    ext_get_or 0 l (map f (states_from 0 n)) (e ∙ sym long) (λ k b. let c : k < n = omega (arith, e) in h k c ∙ sym (each-state f 0 n k c ∙ ap f (zero-add k)))

pub filled_more : (f : ℕ → ℕ) (w : ℕ) (l : List ℕ) {v : ℕ} → w < length l → v ≡ f w → ((k : ℕ) → k < w → get_or l k 0 ≡ f k) → (k : ℕ) → k < w + 1 → get_or (set l w v) k 0 ≡ f k
filled_more f w l {v} h e before k b = at (ℕ_discrete k w)
  where
    at : Dec (k ≡ w) → get_or (set l w v) k 0 ≡ f k
    at (yes q) = rw q (get_or-set_same l w v 0 h ∙ e)
    at (no o) = get_or-set_other l w k v 0 o ∙ before k (omega arith)
