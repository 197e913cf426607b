-- What a bit leaves live of the pairs is a table of partners: each state's partners of its value.
use mathlib.Core.Path.{◌≡◌, refl, sym, ap, ap₂, ◌∙◌, subst}
use mathlib.Core.Bool.{Bool, true, false, cond}
use mathlib.Core.List.{List, [], ◌∷◌, ◌++◌, map}
use Prim.Native.Nat.{ℕ, zero, suc, ◌+◌, ◌-◌, ◌^◌, ◌<◌}
use native.Mathlib.Nat.{add-zero}
use native.Mathlib.Decide.{dec_lt}
use native.Mathlib.Omega.{arith}
use lib.Bits.{bit_xor, and_zero_l}
use lib.Dec.{eqb}
use lib.ListN.{length, get_or}
use Rattle.sets.specs.Sets.{has, states_from}
use Rattle.sets.proofs.Members.{has-high}
use Rattle.rules.specs.Code.{unmet_by}
use Rattle.move_table.proofs.Shares.{is_met}
use Rattle.families.specs.Families.{inside}
use Rattle.move_halves.specs.Halves.{ones, zeros}
use Rattle.move_halves.proofs.Sums.{over, over-in, over-out}
use Rattle.move_pairs.specs.Pairs.{like_of}
use Rattle.move_pairs.proofs.Partners.{pairs_among, pairs_of, Partners, kept_from}
use Rattle.move_pairs.proofs.Pair.{pair, unlike, pair-met}
use Rattle.move_pairs.proofs.Row.{unlike-turned}
use Rattle.move_pairs.proofs.Changes.{like_at, parts-lt}
use Rattle.families.proofs.Left.{unmet-append, unmet-inside}

-- ---- the table

pub like-none : (b i : ℕ) → like_of 0 b i ≡ 0
like-none b i = go (eqb (has b i) 1)
  where
    go : (u : Bool) → cond u (ones 0 b) (zeros 0 b) ≡ 0
    go true = and_zero_l b
    go false = ap (bit_xor 0) (and_zero_l b)

kept_from_lem : (b : ℕ) (ps : List ℕ) (k i : ℕ) → get_or (kept_from b k ps) i 0 ≡ like_of (get_or ps i 0) b (k + i)
unfolding kept_from
kept_from_lem b [] k i = sym (like-none b (k + i))
kept_from_lem b (p ∷ ps) k zero = ap (like_of p b) (sym (add-zero k))
kept_from_lem b (p ∷ ps) k (suc i) = let e : suc k + i ≡ k + suc i = omega arith in kept_from_lem b ps (suc k) i ∙ ap (like_of (get_or ps i 0) b) e

pub kept_at : (b : ℕ) (ps : List ℕ) (i : ℕ) → get_or (kept_from b 0 ps) i 0 ≡ like_of (get_or ps i 0) b i
kept_at b ps i = let e : 0 + i ≡ i = omega arith in kept_from_lem b ps 0 i ∙ ap (like_of (get_or ps i 0) b) e

pub kept-length : (b : ℕ) (ps : List ℕ) (k : ℕ) → length (kept_from b k ps) ≡ length ps
unfolding kept_from
kept-length b [] k = refl
kept-length b (p ∷ ps) k = ap suc (kept-length b ps (suc k))

-- ---- the pairs

module _ (n : ℕ) (ps : List ℕ) (table : Partners ps) (within : (i : ℕ) → get_or ps i 0 < 2 ^ n) (b : ℕ) where
  -- the states of a pair are below n
  below : (i t : ℕ) → has (get_or ps i 0) t ≡ 1 → t < n
  below i t e = go (dec_lt t n)
    where
      go : Dec (t < n) → t < n
      go (yes h) = h
      go (no h) = absurd (omega (arith, has-high n (get_or ps i 0) t (within i) (omega arith)))

  -- a pair is met, or its second state is left
  left-or-met : (i t : ℕ) → has (get_or ps i 0) t ≡ 1 → is_met n (pair i t) b + has (like_of (get_or ps i 0) b i) t ≡ 1
  left-or-met i t e =
      let apart : t ≡ i → ⊥ = λ z. omega (arith, table.others i, ap (has (get_or ps i 0)) z) in
      ap₂ (λ (x y : ℕ). x + y) (pair-met n i t (below t i (sym (table.back i t) ∙ e)) (below i t e) apart b) (like_at (get_or ps i 0) b i t ∙ over-in (get_or ps i 0) (λ j. 1 - unlike b i j) t e)
      ∙ one (unlike b i t) (omega arith)
    where
      one : (x : ℕ) → x < 2 → x + (1 - x) ≡ 1
      one x h = omega arith

  row-left : (i : ℕ) (ts : List ℕ) → unmet_by n b (map (pair i) (inside (get_or ps i 0) ts)) ≡ map (pair i) (inside (get_or (kept_from b 0 ps) i 0) ts)
  row-left i ts =
      unmet-inside n b (pair i) (get_or ps i 0) (like_of (get_or ps i 0) b i)
      (λ t e. like_at (get_or ps i 0) b i t ∙ over-out (get_or ps i 0) (λ j. 1 - unlike b i j) t e)
      (λ t e. left-or-met i t e) ts
      ∙ ap (λ (m : ℕ). map (pair i) (inside m ts)) (sym (kept_at b ps i))

  left-among : (js : List ℕ) → unmet_by n b (pairs_among ps js) ≡ pairs_among (kept_from b 0 ps) js
  unfolding pairs_among unmet_by
  left-among [] = refl
  left-among (i ∷ js) =
      unmet-append n b (map (pair i) (inside (get_or ps i 0) js)) (pairs_among ps js)
      ∙ ap₂ ◌++◌ (row-left i js) (left-among js)

  pub pairs-left : unmet_by n b (pairs_of ps) ≡ pairs_of (kept_from b 0 ps)
  unfolding pairs_of
  pairs-left = left-among (states_from 0 64)

  -- and it is a table of partners
  kept-has : (i j : ℕ) → has (get_or (kept_from b 0 ps) i 0) j ≡ over (get_or ps i 0) (λ j. 1 - unlike b i j) j
  kept-has i j = ap (λ (m : ℕ). has m j) (kept_at b ps i) ∙ like_at (get_or ps i 0) b i j

  pub kept-partners : Partners (kept_from b 0 ps)
  kept-partners = record {
    back = λ i j.
        kept-has i j
        ∙ ap₂ (λ (d v : ℕ). cond (eqb d 1) v 0) (table.back i j) (ap (λ (d : ℕ). 1 - d) (unlike-turned b i j))
        ∙ sym (kept-has j i);
    others = λ i. kept-has i i ∙ over-out (get_or ps i 0) (λ j. 1 - unlike b i j) i (table.others i);
    words = λ i. subst (λ (m : ℕ). m < 2 ^ 64) (sym (kept_at b ps i)) (parts-lt (get_or ps i 0) b i 0 64 (table.words i)).0;
  }

  pub kept-within : (i : ℕ) → get_or (kept_from b 0 ps) i 0 < 2 ^ n
  kept-within i = subst (λ (m : ℕ). m < 2 ^ n) (sym (kept_at b ps i)) (parts-lt (get_or ps i 0) b i 0 n (within i)).0
