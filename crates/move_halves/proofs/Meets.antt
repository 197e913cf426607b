-- How many of a family's requirements a bit meets: each half as often as it is worth, where none of its side must change.
use mathlib.Core.Path.{◌≡◌, refl, sym, ap, ap₂, ◌∙◌}
use mathlib.Core.Bool.{Bool, true, false, ◌||◌, cond}
use mathlib.Core.List.{[], ◌∷◌, map}
use Prim.Native.Nat.{ℕ, zero, suc, ◌+◌, ◌-◌, ◌%◌, ◌^◌, ◌<◌, min}
use native.Mathlib.Nat.{add-zero}
use native.Mathlib.Decide.{dec_lt}
use native.Mathlib.Omega.{arith}
use lib.Bits.{bit_xor}
use lib.Dec.{eqb, ltb}
use lib.IntN.{pos, negsuc, sub_ℕ}
use borrow.Author.Tests.{ne_eqb, ltb-true, ltb-false}
use Rattle.sets.specs.Sets.{has, flip as turn, size, states_from}
use Rattle.sets.proofs.Members.{has-lt, has-and, has-high}
use Rattle.sets.proofs.Totals.{total-same}
use Rattle.sets.proofs.Size.{size-total}
use Rattle.rules.specs.Requirements.{met_count}
use Rattle.rules.specs.OneBit.{gain}
use Rattle.rules.proofs.Meeting.{one_way, other_way, met-counts}
use Rattle.rules.proofs.Shares.{sum_of_shares, gain-shares}
use Rattle.move_table.proofs.Shares.{is_met}
use Rattle.families.specs.Families.{without, inside, single, joined, requirements_of}
use Rattle.move_halves.specs.Halves.{side, back, ones, zeros, worth, held_by, held}
use Rattle.families.proofs.Parts.{part-lt, rest_lt, has_rest}
use Rattle.move_halves.proofs.Sums.{met-counted, counted-all, over, over-in, over-out, total-add, total-held, size-parts}
use Rattle.move_halves.proofs.Sides.{single-one, single-other, joined-one, joined-other}

-- the two halves together
abbrev pub held_at : ℕ → ℕ → ℕ → ℕ → ℕ
held_at all flip out b =
    held (side all flip b) (worth out (ones (without out all) b)) + held (back all flip b) (worth out (zeros (without out all) b))

-- a requirement without a member is met by any bit, and stands in both halves: one too many
abbrev pub spare : ℕ → ℕ → ℕ
spare all out = cond (eqb out 0) (held_by (size all) 1) 0

-- ---- one requirement

pub held-zero : (x : ℕ) → held_by x 0 ≡ 0
held-zero zero = refl
held-zero (suc x) = refl

-- nothing must change
zero_test : (x : ℕ) → cond (eqb x 0) 1 0 ≡ held_by x 1
zero_test zero = refl
zero_test (suc x) = rw (ne_eqb (suc x) 0 (λ e. omega arith))

-- of two counts one is 0
either-none : (x y z : ℕ) → x + y ≡ z → cond (eqb x 0 || eqb y 0) 1 0 + held_by z 1 ≡ held_by x 1 + held_by y 1
either-none zero zero zero e = refl
either-none zero (suc y) (suc z) e = refl
either-none (suc x) zero (suc z) e = rw (ne_eqb (suc x) 0 (λ e. omega arith))
either-none (suc x) (suc y) (suc z) e = rw (ne_eqb (suc x) 0 (λ e. omega arith), ne_eqb (suc y) 0 (λ e. omega arith))
either-none zero zero (suc z) e = absurd (omega arith)
either-none zero (suc y) zero e = absurd (omega arith)
either-none (suc x) y zero e = absurd (omega arith)

-- with a state outside whose value is d
either-with : (x y d o p : ℕ) → d < 2 → o + d ≡ x + 1 → p ≡ y + d → cond (eqb o 0 || eqb p 0) 1 0 ≡ held_by x d + held_by y (1 - d)
either-with x y zero o p h e f =
    let g : p ≡ y = omega arith in
    rw (ne_eqb o 0 (λ z. omega arith), g, held-zero x) (zero_test y ∙ omega arith)
either-with x y (suc zero) o p h e f =
    let g : o ≡ x = omega arith in
    rw (ne_eqb p 0 (λ z. omega arith), g, held-zero y) (last (eqb x 0) (zero_test x))
  where
    last : (t : Bool) → cond t 1 0 ≡ held_by x 1 → cond (t || false) 1 0 ≡ held_by x 1 + 0
    last true e = omega arith
    last false e = omega arith
either-with x y (suc (suc d)) o p h e f = absurd (omega arith)

module _ (n all flip b : ℕ) (ha : all < 2 ^ n) where
  single-met : is_met n (single all flip) b + held_by (size all) 1 ≡ held (side all flip b) 1 + held (back all flip b) 1
  single-met =
      ap (λ (t : Bool). cond t 1 0 + held_by (size all) 1)
      (met-counts n (single all flip) b ∙ ap₂ (λ (k j : ℕ). eqb k 0 || eqb j 0) (single-one n all flip b ha) (single-other n all flip b ha))
      ∙ either-none (size (side all flip b)) (size (back all flip b)) (size all) (size-parts n all (bit_xor b flip) ha)

  pub joined-met : (t : ℕ) → t < n → has all t ≡ 0
      → is_met n (joined all flip t) b ≡ held (side all flip b) (has b t) + held (back all flip b) (1 - has b t)
  joined-met t ht out =
      ap (λ (t : Bool). cond t 1 0) (met-counts n (joined all flip t) b)
      ∙ either-with (size (side all flip b)) (size (back all flip b)) (has b t) (one_way n (joined all flip t) b) (other_way n (joined all flip t) b) (has-lt b t)
      (joined-one n all flip b ha t ht out) (joined-other n all flip b ha t ht out)

-- ---- the states outside

-- a state outside stands outside, and below n
pub outside-at : (n all out t : ℕ) → out < 2 ^ n → has (without out all) t ≡ 1 → (t < n) × (has all t ≡ 0) × (has out t ≡ 1)
outside-at n all out t ho e = (below (dec_lt t n), omega (arith, r, has-lt out t, has-lt all t), omega (arith, r, has-lt out t))
  where
    r : has (without out all) t ≡ (has out t + min (has out t) (has all t)) % 2
    r = has_rest out all t

    below : Dec (t < n) → t < n
    below (yes h) = h
    below (no h) = absurd (omega (arith, r, has-high n out t ho (omega arith)))

-- those that are right in half 1 and those that are right in half 0
pub ones-at : (o b t : ℕ) → has o t ≡ 1 → has (ones o b) t ≡ has b t
ones-at o b t e = omega (arith, has-and o b t, has-lt b t)

pub zeros-at : (o b t : ℕ) → has o t ≡ 1 → has (zeros o b) t ≡ 1 - has b t
zeros-at o b t e = omega (arith, has_rest o b t, has-lt b t)

pub ones_none : (o b t : ℕ) → has o t ≡ 0 → has (ones o b) t ≡ 0
ones_none o b t e = omega (arith, has-and o b t)

pub zeros-none : (o b t : ℕ) → has o t ≡ 0 → has (zeros o b) t ≡ 0
zeros-none o b t e = omega (arith, has_rest o b t)

module _ (n all flip out b : ℕ) (ha : all < 2 ^ n) (ho : out < 2 ^ n) (hw : out < 2 ^ 64) where
  each : (t : ℕ) → over (without out all) (λ t. is_met n (joined all flip t) b) t
      ≡ held (side all flip b) (has (ones (without out all) b) t) + held (back all flip b) (has (zeros (without out all) b) t)
  each t = go (has (without out all) t) refl
    where
      go : (d : ℕ) → has (without out all) t ≡ d → over (without out all) (λ t. is_met n (joined all flip t) b) t
          ≡ held (side all flip b) (has (ones (without out all) b) t) + held (back all flip b) (has (zeros (without out all) b) t)
      go zero e =
          over-out (without out all) (λ t. is_met n (joined all flip t) b) t e
          ∙ sym (ap₂ (λ (x y : ℕ). held (side all flip b) x + held (back all flip b) y) (ones_none (without out all) b t e) (zeros-none (without out all) b t e)
          ∙ ap₂ (λ (x y : ℕ). x + y) (held-zero (size (side all flip b))) (held-zero (size (back all flip b))))
      go (suc d) e =
          let i : has (without out all) t ≡ 1 = omega (arith, has-lt (without out all) t) in
          let h = outside-at n all out t ho i in
          over-in (without out all) (λ t. is_met n (joined all flip t) b) t i
          ∙ joined-met n all flip b ha t h.0 h.1
          ∙ sym (ap₂ (λ (x y : ℕ). held (side all flip b) x + held (back all flip b) y) (ones-at (without out all) b t i) (zeros-at (without out all) b t i))

  group-met : met_count n (map (joined all flip) (inside (without out all) (states_from 0 64))) b
      ≡ held (side all flip b) (size (ones (without out all) b)) + held (back all flip b) (size (zeros (without out all) b))
  group-met =
      let q : ℕ = without out all in
      met-counted n b (joined all flip) (inside q (states_from 0 64))
      ∙ counted-all q (λ t. is_met n (joined all flip t) b)
      ∙ total-same 64 (over q (λ t. is_met n (joined all flip t) b)) (λ t. held (side all flip b) (has (ones q b) t) + held (back all flip b) (has (zeros q b) t)) (λ t _. each t)
      ∙ total-add 64 (λ t. held (side all flip b) (has (ones q b) t)) (λ t. held (back all flip b) (has (zeros q b) t))
      ∙ ap₂ (λ (x y : ℕ). x + y)
      (total-held 64 (size (side all flip b)) (has (ones q b)) ∙ ap (held (side all flip b)) (sym (size-total 64 (ones q b) (part-lt 64 q b (rest_lt 64 out all hw)))))
      (total-held 64 (size (back all flip b)) (has (zeros q b)) ∙ ap (held (back all flip b)) (sym (size-total 64 (zeros q b) (rest_lt 64 q b (rest_lt 64 out all hw)))))

  pub family-met : met_count n (requirements_of all flip out) b + spare all out ≡ held_at all flip out b
  unfolding requirements_of met_count
  family-met = go (eqb out 0)
    where
      go : (t : Bool) → met_count n (cond t (single all flip ∷ []) (map (joined all flip) (inside (without out all) (states_from 0 64)))) b + cond t (held_by (size all) 1) 0
          ≡ held (side all flip b) (cond t 1 (size (ones (without out all) b))) + held (back all flip b) (cond t 1 (size (zeros (without out all) b)))
      go true = ap (λ (k : ℕ). k + held_by (size all) 1) (add-zero (is_met n (single all flip) b)) ∙ single-met n all flip b ha
      go false = add-zero (met_count n (map (joined all flip) (inside (without out all) (states_from 0 64))) b) ∙ group-met

-- two differences of numbers that are as far apart
minus-same : (a b x y : ℕ) → a + y ≡ x + b → sub_ℕ a b ≡ sub_ℕ x y
minus-same a b x y e = go (ltb a b) (ltb x y) refl refl
  where
    go : (t u : Bool) → ltb a b ≡ t → ltb x y ≡ u → cond t (negsuc (b - suc a)) (pos (a - b)) ≡ cond u (negsuc (y - suc x)) (pos (x - y))
    go true true p q = let z : b - suc a ≡ y - suc x = omega (arith, ltb-true a b p, ltb-true x y q) in ap negsuc z
    go true false p q = absurd (omega (arith, ltb-true a b p, ltb-false x y q))
    go false true p q = absurd (omega (arith, ltb-false a b p, ltb-true x y q))
    go false false p q = let z : a - b ≡ x - y = omega (arith, ltb-false a b p, ltb-false x y q) in ap pos z

-- the sum of the shares of a family's requirements in a state's gain is what its halves are worth after the flip, less what they are worth now
module _ (n all flip out : ℕ) (ha : all < 2 ^ n) (ho : out < 2 ^ n) (hw : out < 2 ^ 64) where
  pub family-shares : (b u : ℕ) → sum_of_shares n (requirements_of all flip out) b u ≡ sub_ℕ (held_at all flip out (turn b u)) (held_at all flip out b)
  unfolding gain
  family-shares b u =
      sym (gain-shares n (requirements_of all flip out) b u)
      ∙ minus-same (met_count n (requirements_of all flip out) (turn b u)) (met_count n (requirements_of all flip out) b) (held_at all flip out (turn b u)) (held_at all flip out b)
      (apart _ _ (spare all out) _ _ (family-met n all flip out (turn b u) ha ho hw) (family-met n all flip out b ha ho hw))
    where
      apart : (a b c x y : ℕ) → a + c ≡ x → b + c ≡ y → a + y ≡ x + b
      apart a b c x y p q = omega arith
