-- The live pairs of a code are those of a table of partners, which its bits make: in it stands for each state what `partners_of` says.
use mathlib.Core.Path.{◌≡◌, refl, sym, ap, ap₂, ◌∙◌, subst}
use mathlib.Core.List.{List, [], ◌∷◌, ◌++◌, map}
use Prim.Native.Nat.{ℕ, zero, suc, ◌+◌, ◌-◌, ◌^◌, ◌≤◌, ◌<◌, min}
use native.Mathlib.Nat.{add-zero, lt_of_lt_of_le}
use native.Mathlib.Decide.{dec_lt, ℕ_discrete}
use native.Mathlib.Omega.{arith}
use lib.ListN.{length, get_or, length-map, get_or-eq_default}
use lib.Pow.{pow_pos, pow_mono}
use borrow.Author.Tests.{eq-eqb, ne_eqb}
use Rattle.sets.specs.Sets.{has, flip, everyone, states_from}
use Rattle.sets.proofs.Members.{has-none, has_all, has-high, has-flip, has-flip-other, flip-lt}
use Rattle.rules.specs.Requirements.{pairs}
use Rattle.rules.specs.declared.Requirement.{Requirement}
use Rattle.rules.proofs.Most.{states-length}
use Rattle.rules.proofs.Unmet.{live_after, unmet_in, live-unmet}
use Rattle.families.specs.Families.{inside}
use Rattle.families.proofs.Inside.{inside-in}
use Rattle.families.proofs.Drawn.{none-high}
use Rattle.move_pairs.specs.Pairs.{live_pairs, others_of, alike_in, partners_of}
use Rattle.move_pairs.proofs.Partners.{pairs_among, pairs_of, Partners, kept_from}
use Rattle.move_pairs.proofs.Pair.{pair}
use Rattle.move_pairs.proofs.Kept.{kept_at, kept-length, kept-partners, kept-within, pairs-left}

-- ---- each state below n is a partner of each other

module _ (n : ℕ) (ps : List ℕ) (fits : n ≤ 64)
    (full : (i t : ℕ) → i < t → t < n → has (get_or ps i 0) t ≡ 1) (high : (i t : ℕ) → n ≤ t → has (get_or ps i 0) t ≡ 0) (none : (i : ℕ) → n ≤ i → (t : ℕ) → has (get_or ps i 0) t ≡ 0) where
  row : (i r k a : ℕ) → i < a → a + k ≡ n → inside (get_or ps i 0) (states_from a (k + r)) ≡ states_from a k
  unfolding inside states_from
  row i r zero a l e = let z : 0 + r ≡ r = omega arith in ap (λ (j : ℕ). inside (get_or ps i 0) (states_from a j)) z ∙ none-high n (get_or ps i 0) (high i) r a (omega arith)
  row i r (suc k) a l e =
      let z : suc k + r ≡ suc (k + r) = omega arith in
      ap (λ (j : ℕ). inside (get_or ps i 0) (states_from a j)) z
      ∙ inside-in (get_or ps i 0) a (states_from (suc a) (k + r)) (full i a l (omega arith))
      ∙ ap (λ (l : List ℕ). a ∷ l) (row i r k (suc a) (omega arith) (omega arith))

  nobody : (r a : ℕ) → n ≤ a → pairs_among ps (states_from a r) ≡ []
  unfolding pairs_among states_from
  nobody zero a l = refl
  nobody (suc r) a l =
      ap₂ (λ (xs : List ℕ) (rs : List Requirement). map (pair a) xs ++ rs) (none-high 0 (get_or ps a 0) (λ t _. none a l t) r (suc a) (omega arith)) (nobody r (suc a) (omega arith))

  from : (r k a : ℕ) → a + k ≡ n → pairs_among ps (states_from a (k + r)) ≡ pairs (states_from a k)
  unfolding pairs_among states_from pairs
  from r zero a e = let z : 0 + r ≡ r = omega arith in ap (λ (j : ℕ). pairs_among ps (states_from a j)) z ∙ nobody r a (omega arith)
  from r (suc k) a e =
      let z : suc k + r ≡ suc (k + r) = omega arith in
      ap (λ (j : ℕ). pairs_among ps (states_from a j)) z
      ∙ ap₂ (λ (xs : List ℕ) (rs : List Requirement). map (pair a) xs ++ rs) (row a r k (suc a) (omega arith) (omega arith)) (from r k (suc a) (omega arith))

  pairs-drawn : pairs_of ps ≡ pairs (states_from 0 n)
  unfolding pairs_of
  pairs-drawn = let e : 64 ≡ n + (64 - n) = omega arith in ap (λ (k : ℕ). pairs_among ps (states_from 0 k)) e ∙ from (64 - n) n 0 (omega arith)

module _ (n : ℕ) where
  m : ℕ
  m = min n 64

  few : m ≤ 64
  unfolding m
  few = omega arith

  all-lt : everyone m < 2 ^ m
  all-lt = omega (arith, pow_pos m)

  others-in : (i : ℕ) → i < m → others_of n i ≡ flip (everyone m) i
  unfolding others_of m
  others-in i h = rw (eq-eqb (has (everyone m) i) 1 (has_all m i h))

  others-out : (i : ℕ) → m ≤ i → others_of n i ≡ 0
  unfolding others_of m
  others-out i h = rw (ne_eqb (has (everyone m) i) 1 (λ e. omega (arith, has-high m (everyone m) i all-lt h)))

  others-lt : (i : ℕ) → others_of n i < 2 ^ m
  others-lt i = go (dec_lt i m)
    where
      go : Dec (i < m) → others_of n i < 2 ^ m
      go (yes h) = subst (λ (x : ℕ). x < 2 ^ m) (sym (others-in i h)) (flip-lt m (everyone m) i all-lt h)
      go (no h) = subst (λ (x : ℕ). x < 2 ^ m) (sym (others-out i (omega arith))) (pow_pos m)

  others-full : (i t : ℕ) → i < m → t < m → (t ≡ i → ⊥) → has (others_of n i) t ≡ 1
  others-full i t h l o = ap (λ (x : ℕ). has x t) (others-in i h) ∙ has-flip-other (everyone m) i t o ∙ has_all m t l

  others-high : (i t : ℕ) → m ≤ t → has (others_of n i) t ≡ 0
  others-high i t h = has-high m (others_of n i) t (others-lt i) h

  others-none : (i t : ℕ) → m ≤ i → has (others_of n i) t ≡ 0
  others-none i t h = ap (λ (x : ℕ). has x t) (others-out i h) ∙ has-none t

  others-own : (i : ℕ) → has (others_of n i) i ≡ 0
  others-own i = go (dec_lt i m)
    where
      go : Dec (i < m) → has (others_of n i) i ≡ 0
      go (yes h) = ap (λ (x : ℕ). has x i) (others-in i h) ∙ omega (arith, has-flip (everyone m) i, has_all m i h)
      go (no h) = others-none i i (omega arith)

  others-back : (i j : ℕ) → has (others_of n i) j ≡ has (others_of n j) i
  others-back i j = go (dec_lt i m) (dec_lt j m) (ℕ_discrete i j)
    where
      go : Dec (i < m) → Dec (j < m) → Dec (i ≡ j) → has (others_of n i) j ≡ has (others_of n j) i
      go p q (yes e) = subst (λ (k : ℕ). has (others_of n i) k ≡ has (others_of n k) i) e refl
      go (yes p) (yes q) (no o) = others-full i j p q (λ e. o (sym e)) ∙ sym (others-full j i q p o)
      go (yes p) (no q) (no o) = others-high i j (omega arith) ∙ sym (others-none j i (omega arith))
      go (no p) q (no o) = others-none i j (omega arith) ∙ sym (others-high j i (omega arith))

  -- the table before there is a bit
  first : List ℕ
  first = map (others_of n) (states_from 0 m)

  row_at : (f : ℕ → ℕ) (k a i : ℕ) → i < k → get_or (map f (states_from a k)) i 0 ≡ f (a + i)
  unfolding states_from
  row_at f zero a i h = absurd (omega arith)
  row_at f (suc k) a zero h = ap f (sym (add-zero a))
  row_at f (suc k) a (suc i) h = let e : suc a + i ≡ a + suc i = omega arith in row_at f k (suc a) i (omega arith) ∙ ap f e

  first-length : length first ≡ m
  unfolding first
  first-length = length-map (states_from 0 m) (others_of n) ∙ states-length 0 m

  first-in : (i : ℕ) → i < m → get_or first i 0 ≡ others_of n i
  unfolding first
  first-in i h = let e : 0 + i ≡ i = omega arith in row_at (others_of n) m 0 i h ∙ ap (others_of n) e

  first-at : (i : ℕ) → get_or first i 0 ≡ others_of n i
  first-at i = go (dec_lt i m)
    where
      go : Dec (i < m) → get_or first i 0 ≡ others_of n i
      go (yes h) = first-in i h
      go (no h) = let o : length first ≤ i = omega (arith, first-length) in get_or-eq_default first 0 o ∙ sym (others-out i (omega arith))

  has_first : (i t : ℕ) → has (get_or first i 0) t ≡ has (others_of n i) t
  has_first i t = ap (λ (x : ℕ). has x t) (first-at i)

  first-within : (i : ℕ) → get_or first i 0 < 2 ^ m
  first-within i = subst (λ (x : ℕ). x < 2 ^ m) (sym (first-at i)) (others-lt i)

  first-partners : Partners first
  first-partners = record {
    back = λ i j. has_first i j ∙ others-back i j ∙ sym (has_first j i);
    others = λ i. has_first i i ∙ others-own i;
    words = λ i. lt_of_lt_of_le (first-within i) (pow_mono few);
  }

  first-pairs : pairs_of first ≡ pairs (states_from 0 m)
  first-pairs =
      pairs-drawn m first few
      (λ i t l h. has_first i t ∙ others-full i t (omega arith) h (λ e. omega arith))
      (λ i t h. has_first i t ∙ others-high i t h)
      (λ i h t. has_first i t ∙ others-none i t h)

-- ---- and after each bit those that have its value

unfoldable pub kept_all : List ℕ → List ℕ → List ℕ
unfolding kept_from
kept_all [] ps = ps
kept_all (b ∷ bits) ps = kept_all bits (kept_from b 0 ps)

kept-all-at : (bits ps : List ℕ) (i : ℕ) → get_or (kept_all bits ps) i 0 ≡ alike_in bits i (get_or ps i 0)
unfolding kept_all alike_in
kept-all-at [] ps i = refl
kept-all-at (b ∷ bits) ps i = kept-all-at bits (kept_from b 0 ps) i ∙ ap (alike_in bits i) (kept_at b ps i)

kept-all-length : (bits ps : List ℕ) → length (kept_all bits ps) ≡ length ps
unfolding kept_all
kept-all-length [] ps = refl
kept-all-length (b ∷ bits) ps = kept-all-length bits (kept_from b 0 ps) ∙ kept-length b ps 0

kept-all-partners : (bits ps : List ℕ) → Partners ps → Partners (kept_all bits ps)
unfolding kept_all
kept-all-partners [] ps table = table
kept-all-partners (b ∷ bits) ps table = kept-all-partners bits (kept_from b 0 ps) (kept-partners 64 ps table table.words b)

kept-all-pairs : (n : ℕ) (bits ps : List ℕ) → Partners ps → ((i : ℕ) → get_or ps i 0 < 2 ^ n) → pairs_of (kept_all bits ps) ≡ live_after n bits (pairs_of ps)
unfolding kept_all live_after
kept-all-pairs n [] ps table within = refl
kept-all-pairs n (b ∷ bits) ps table within =
    kept-all-pairs n bits (kept_from b 0 ps) (kept-partners n ps table within b) (kept-within n ps table within b)
    ∙ ap (live_after n bits) (sym (pairs-left n ps table within b))

-- ---- the table of a code

unfoldable pub partners_by : ℕ → List ℕ → List ℕ
unfolding kept_all first m
partners_by n bits = kept_all bits (first n)

module _ (n : ℕ) (bits : List ℕ) where
  pub partners-at : (i : ℕ) → get_or (partners_by n bits) i 0 ≡ partners_of n bits i
  unfolding partners_by partners_of
  partners-at i = kept-all-at bits (first n) i ∙ ap (alike_in bits i) (first-at n i)

  pub partners-length : length (partners_by n bits) ≡ min n 64
  unfolding partners_by m
  partners-length = kept-all-length bits (first n) ∙ first-length n

  pub partners-table : Partners (partners_by n bits)
  unfolding partners_by
  partners-table = kept-all-partners bits (first n) (first-partners n)

  pub partners-pairs : pairs_of (partners_by n bits) ≡ live_pairs n bits
  unfolding partners_by live_pairs m
  partners-pairs =
      kept-all-pairs (m n) bits (first n) (first-partners n) (first-within n)
      ∙ live-unmet (m n) bits (pairs_of (first n))
      ∙ ap (unmet_in (m n) bits) (first-pairs n)
