-- The fields of a listing's text, read: as many characters as there are to be, each of those that 01 allows, and the sets that they were written from.
use mathlib.Core.Path.{◌≡◌, refl, sym, ap, ◌∙◌}
use mathlib.Core.Bool.{Bool, true, false, ◌||◌, cond}
use mathlib.Core.List.{List, [], ◌∷◌, map}
use Prim.Native.Nat.{ℕ, zero, suc, ◌+◌, ◌/◌, ◌%◌, ◌^◌, ◌≤◌, ◌<◌}
use native.Mathlib.Nat.{add-zero}
use native.Mathlib.Omega.{arith}
use lib.Dec.{eqb}
use lib.ListN.{length}
use borrow.Author.Tests.{eqb-true, eqb-false, eq-eqb, ne_eqb, le-leb}
use Rattle.sets.specs.Sets.{has, states_from}
use Rattle.sets.proofs.Members.{has-lt, has-zero, has-suc, half_lt}
use Rattle.sets.proofs.Every.{and_both}
use Rattle.rules.specs.Text.{digit, dash, nought, one, all_of, sized, set_of}
use Rattle.rules.specs.ListingText.{pattern_mark, pattern_field, set_field}
use Rattle.rules.specs.declared.Pattern.{Pattern}
use Rattle.rules.proofs.Fields.{Without, without-map}
use Rattle.rules.proofs.Characters.{apart-has}
use Rattle.rules.proofs.SoundLines.{SoundPattern}
use Rattle.rules.proofs.ListingLength.{pattern-long, set_long}

-- ---- a set from its characters

-- of n characters from a on, those that are c make the set m, if they are so digit by digit
pub set-read : (c : ℕ) (f : ℕ → ℕ) (a n m : ℕ) → m < 2 ^ n → ((j : ℕ) → digit (eqb (f (a + j)) c) ≡ has m j) → set_of c (map f (states_from a n)) ≡ m
unfolding set_of states_from
set-read c f a zero m h e = omega arith
set-read c f a (suc n) m h e =
    let low : digit (eqb (f a) c) ≡ m % 2 = ap (λ (k : ℕ). digit (eqb (f k) c)) (sym (add-zero a)) ∙ e 0 ∙ has-zero m in
    let high : set_of c (map f (states_from (suc a) n)) ≡ m / 2 = set-read c f (suc a) n (m / 2) (half_lt n h) (λ j. shifted j ∙ e (suc j) ∙ has-suc m j) in
    omega arith
  where
    shifted : (j : ℕ) → digit (eqb (f (suc a + j)) c) ≡ digit (eqb (f (a + suc j)) c)
    shifted j = let z : suc a + j ≡ a + suc j = omega arith in ap (λ (k : ℕ). digit (eqb (f k) c)) z

pub all-of : (a b c : ℕ) (f : ℕ → ℕ) (l : List ℕ) → ((j : ℕ) → (eqb (f j) a || (eqb (f j) b || eqb (f j) c)) ≡ true) → all_of a b c (map f l) ≡ true
unfolding all_of
all-of a b c f [] h = refl
all-of a b c f (x ∷ xs) h = and_both (eqb (f x) a || (eqb (f x) b || eqb (f x) c)) (all_of a b c (map f xs)) (h x) (all-of a b c f xs h)

pub fits : (most k a b c : ℕ) (l : List ℕ) → k ≤ most → length l ≡ k → all_of a b c l ≡ true → sized most k a b c l ≡ true
unfolding sized
fits most k a b c l h e q = rw (le-leb (length l) most (omega arith), eq-eqb (length l) k e) q

-- ---- a digit as a character

pub digit-one : (d : ℕ) → d < 2 → digit (eqb (nought + d) one) ≡ d
digit-one zero h = refl
digit-one (suc zero) h = refl
digit-one (suc (suc d)) h = absurd (omega arith)

digit-dash : (d : ℕ) → digit (eqb (nought + d) dash) ≡ 0
digit-dash d = ap digit (ne_eqb (nought + d) dash (λ e. omega arith))

pub is_digit : (c d : ℕ) → d < 2 → (eqb (nought + d) nought || (eqb (nought + d) one || eqb (nought + d) c)) ≡ true
is_digit c zero h = refl
is_digit c (suc zero) h = refl
is_digit c (suc (suc d)) h = absurd (omega arith)

-- ---- a set of states

pub set-field : (n m : ℕ) → m < 2 ^ n → set_of one (set_field n m) ≡ m
unfolding set_field
set-field n m h = set-read one (λ s. nought + has m s) 0 n m h (λ j. rw (zero-plus j) (digit-one (has m j) (has-lt m j)))
  where
    zero-plus : (j : ℕ) → 0 + j ≡ j
    zero-plus j = omega arith

pub set-fits : (most n m : ℕ) → n ≤ most → sized most n nought one one (set_field n m) ≡ true
unfolding set_field
set-fits most n m h =
    fits most n nought one one (set_field n m) h (set_long n m)
    (all-of nought one one (λ s. nought + has m s) (states_from 0 n) (λ j. is_digit one (has m j) (has-lt m j)))

pub set-without : (q n m : ℕ) → q < nought → Without q (set_field n m)
unfolding set_field
set-without q n m h = without-map q (λ s. nought + has m s) (states_from 0 n) (λ j e. omega arith)

-- ---- a pattern

module _ (k : ℕ) (p : Pattern) (s : SoundPattern k p) where
  dash-at : (j : ℕ) → digit (eqb (pattern_mark p j) dash) ≡ has p.dashes j
  dash-at j = go (eqb (has p.dashes j) 1) refl
    where
      go : (t : Bool) → eqb (has p.dashes j) 1 ≡ t → digit (eqb (cond t dash (nought + has p.ones j)) dash) ≡ has p.dashes j
      go true e = sym (eqb-true (has p.dashes j) 1 e)
      go false e =
          let o = eqb-false (has p.dashes j) 1 e in
          let z : 0 ≡ has p.dashes j = below (has p.dashes j) (has-lt p.dashes j) o in
          digit-dash (has p.ones j) ∙ z
        where
          below : (d : ℕ) → d < 2 → (d ≡ 1 → ⊥) → 0 ≡ d
          below zero h o = refl
          below (suc zero) h o = absurd (o refl)
          below (suc (suc d)) h o = absurd (omega arith)

  one_at : (j : ℕ) → digit (eqb (pattern_mark p j) one) ≡ has p.ones j
  one_at j = go (eqb (has p.dashes j) 1) refl
    where
      go : (t : Bool) → eqb (has p.dashes j) 1 ≡ t → digit (eqb (cond t dash (nought + has p.ones j)) one) ≡ has p.ones j
      go true e =
          let d : has p.dashes j ≡ 1 = eqb-true (has p.dashes j) 1 e in
          let z : 0 ≡ has p.ones j = omega (arith, apart-has p.ones p.dashes s.apart j) in
          z
      go false e = digit-one (has p.ones j) (has-lt p.ones j)

  from_zero : (c : ℕ) (m : ℕ) → ((j : ℕ) → digit (eqb (pattern_mark p j) c) ≡ has m j) → (j : ℕ) → digit (eqb (pattern_mark p (0 + j)) c) ≡ has m j
  from_zero c m f j = let z : 0 + j ≡ j = omega arith in ap (λ (i : ℕ). digit (eqb (pattern_mark p i) c)) z ∙ f j

  pub ones-field : set_of one (pattern_field k p) ≡ p.ones
  unfolding pattern_field
  ones-field = set-read one (pattern_mark p) 0 k p.ones s.ones (from_zero one p.ones one_at)

  pub dashes-field : set_of dash (pattern_field k p) ≡ p.dashes
  unfolding pattern_field
  dashes-field = set-read dash (pattern_mark p) 0 k p.dashes s.dashes (from_zero dash p.dashes dash-at)

mark-high : (p : Pattern) (j : ℕ) → dash ≤ pattern_mark p j
mark-high p j = go (eqb (has p.dashes j) 1)
  where
    go : (t : Bool) → dash ≤ cond t dash (nought + has p.ones j)
    go true = omega arith
    go false = omega arith

pub mark-allowed : (p : Pattern) (j : ℕ) → (eqb (pattern_mark p j) nought || (eqb (pattern_mark p j) one || eqb (pattern_mark p j) dash)) ≡ true
mark-allowed p j = go (eqb (has p.dashes j) 1)
  where
    go : (t : Bool) → let x = cond t dash (nought + has p.ones j) in (eqb x nought || (eqb x one || eqb x dash)) ≡ true
    go true = refl
    go false = is_digit dash (has p.ones j) (has-lt p.ones j)

pub pattern-fits : (most k : ℕ) (p : Pattern) → k ≤ most → sized most k nought one dash (pattern_field k p) ≡ true
unfolding pattern_field
pattern-fits most k p h =
    fits most k nought one dash (pattern_field k p) h (pattern-long k p) (all-of nought one dash (pattern_mark p) (states_from 0 k) (mark-allowed p))

pub pattern-without : (q k : ℕ) (p : Pattern) → q < dash → Without q (pattern_field k p)
unfolding pattern_field
pattern-without q k p h = without-map q (pattern_mark p) (states_from 0 k) (λ j e. omega (arith, mark-high p j))
