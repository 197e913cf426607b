-- The families of the pairs have 01's pairs for their requirements.
use mathlib.Core.Path.{◌≡◌, refl, ap, ap₂, ◌∙◌}
use mathlib.Core.List.{List, ◌++◌, map, append-nil}
use Prim.Native.Nat.{ℕ, zero, suc, ◌+◌, ◌-◌, ◌≤◌, ◌<◌}
use native.Mathlib.Omega.{arith}
use lib.Pow.{pow_pos}
use borrow.Author.Tests.{ne_eqb}
use Rattle.sets.specs.Sets.{has, only, everyone, states_from}
use Rattle.sets.proofs.Members.{has-lt, has_all, has-high, has-none, has_other}
use Rattle.rules.specs.Requirements.{asks, pairs}
use Rattle.rules.specs.declared.Requirement.{Requirement}
use Rattle.families.specs.Families.{without, inside, joined, requirements_of, requirements_in}
use Rattle.families.proofs.Parts.{has_rest}
use Rattle.families.proofs.Drawn.{map_same, plain-joined}
use Rattle.families.proofs.Runs.{states-append, inside-append, all-inside, none_inside}
use Rattle.families.proofs.Words.{Threes}
use Rattle.code_drawing.specs.Drawing.{pair_words, pairs_of}

-- who is below n
below : (n t : ℕ) → t < n → has (everyone n) t ≡ 1
below n t h = has_all n t h

above : (n t : ℕ) → n ≤ t → has (everyone n) t ≡ 0
above n t h = has-high n (everyone n) t (omega (arith, pow_pos n)) h

-- the states behind i, of n states; k of them
module _ (n i k : ℕ) (e : i + suc k ≡ n) (fits : n ≤ 64) where
  behind : ℕ
  behind = without (everyone n) (everyone (suc i))

  rest : ℕ
  rest = without behind (only i)

  in-front : (t : ℕ) → t < suc i → has rest t ≡ 0
  unfolding behind rest
  in-front t h =
      let a = below n t (omega arith) in
      let b = below (suc i) t h in
      omega (arith, has_rest behind (only i) t, has_rest (everyone n) (everyone (suc i)) t, has-lt (only i) t)

  within : (t : ℕ) → suc i ≤ t → t < n → has rest t ≡ 1
  unfolding behind rest
  within t h q =
      let a = below n t q in
      let b = above (suc i) t h in
      let c = has_other i t (λ z. omega arith) in
      omega (arith, has_rest behind (only i) t, has_rest (everyone n) (everyone (suc i)) t)

  beyond : (t : ℕ) → n ≤ t → has rest t ≡ 0
  unfolding behind rest
  beyond t h =
      let a = above n t h in
      omega (arith, has_rest behind (only i) t, has_rest (everyone n) (everyone (suc i)) t, has-lt (only i) t)

  rest-listed : inside rest (states_from 0 64) ≡ states_from (suc i) k
  rest-listed =
      let j : ℕ = 64 - n in
      let z : 64 ≡ suc i + (k + j) = omega arith in
      let s : 0 + suc i ≡ suc i = omega arith in
      ap (λ (w : ℕ). inside rest (states_from 0 w)) z
      ∙ ap (inside rest) (states-append 0 (suc i) (k + j))
      ∙ inside-append rest (states_from 0 (suc i)) (states_from (0 + suc i) (k + j))
      ∙ ap₂ (λ (x y : List ℕ). x ++ y) (none_inside rest 0 (suc i) (λ t p q. in-front t (omega arith)))
      (ap (λ (a : ℕ). inside rest (states_from a (k + j))) s
      ∙ ap (inside rest) (states-append (suc i) k j)
      ∙ inside-append rest (states_from (suc i) k) (states_from (suc i + k) j)
      ∙ ap₂ (λ (x y : List ℕ). x ++ y) (all-inside rest (suc i) k (λ t p q. within t p (omega arith))) (none_inside rest (suc i + k) j (λ t p q. beyond t (omega arith)))
      ∙ append-nil (states_from (suc i) k))

  pub pair-family : 0 < k → requirements_of (only i) 0 (without (everyone n) (everyone (suc i))) ≡ map (λ j. asks (only i) (only j)) (states_from (suc i) k)
  unfolding requirements_of behind rest
  pair-family some =
      let o : behind ≡ 0 → ⊥ = λ z. (
      let a = below n (suc i) (omega arith) in
      let b = above (suc i) (suc i) (omega arith) in
      let c : has behind (suc i) ≡ 0 = ap (λ (m : ℕ). has m (suc i)) z ∙ has-none (suc i) in
      omega (arith, has_rest (everyone n) (everyone (suc i)) (suc i))
      ) in
      rw (ne_eqb behind 0 o) (ap (map (joined (only i) 0)) rest-listed ∙ map_same (joined (only i) 0) (λ j. asks (only i) (only j)) (plain-joined (only i)) (states_from (suc i) k))

pub pairs-threes : (n i k : ℕ) → Threes (pair_words n i k)
unfolding pair_words
pairs-threes n i zero = Threes.none
pairs-threes n i (suc k) = Threes.more (pairs-threes n (suc i) k)

words-pairs : (n i k : ℕ) → i + suc k ≡ n → n ≤ 64 → requirements_in (pair_words n i k) ≡ pairs (states_from i (suc k))
unfolding pair_words requirements_in pairs states_from
words-pairs n i zero e fits = refl
words-pairs n i (suc k) e fits = ap₂ (λ (x y : List Requirement). x ++ y) (pair-family n i (suc k) e fits (omega arith)) (words-pairs n (suc i) k (omega arith) fits)

pub pairs-drawn : (n : ℕ) → 1 ≤ n → n ≤ 64 → requirements_in (pairs_of n) ≡ pairs (states_from 0 n)
pairs-drawn n some fits =
    let e : suc (n - 1) ≡ n = omega arith in
    words-pairs n 0 (n - 1) (omega arith) fits ∙ ap (λ (k : ℕ). pairs (states_from 0 k)) e
