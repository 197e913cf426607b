-- The mask form that code uses, against 01's words: the counts, near, and meeting are the same. For blocks that are apart, over any width.
use mathlib.Core.Path.{◌≡◌, refl, sym, ap, ap₂, ◌∙◌}
use mathlib.Core.Bool.{Bool, true, false, ◌||◌}
use Prim.Native.Nat.{ℕ, zero, suc, ◌+◌, ◌%◌, ◌≤◌, ◌<◌, ◌^◌, min, max}
use native.Mathlib.Omega.{arith}
use lib.Dec.{eqb, leb}
use lib.Bits.{bit_or, bit_xor, and_lt, or_lt, xor_lt}
use borrow.Author.Tests.{eq-eqb, ne_eqb, eqb-true, eqb-false}
use Rattle.sets.specs.Sets.{has, size}
use Rattle.sets.specs.Blocks.{wrong, met_mask, near_mask}
use Rattle.sets.proofs.Members.{has-lt, has-and, has-or, has-xor, same-mask, has-none}
use Rattle.sets.proofs.Totals.{total-same}
use Rattle.sets.proofs.Size.{size-total, size_none, none-size}
use Rattle.rules.specs.Requirements.{met}
use Rattle.rules.specs.Looks.{must_change, near}
use Rattle.rules.specs.declared.Requirement.{Requirement}
use Rattle.rules.proofs.Counts.{cost, Apart, apart-turned, cost-zeros, cost-ones, cost-neither}
use Rattle.rules.proofs.Meeting.{met-counts}

has-wrong : (z o b s : ℕ) → has (wrong z o b) s ≡ min (max (has z s) (has o s)) ((has b s + has o s) % 2)
has-wrong z o b s = has-and (bit_or z o) (bit_xor b o) s ∙ ap₂ min (has-or z o s) (has-xor b o s)

-- state by state, who must change
pub wrong-cost : (z o b s : ℕ) → has z s + has o s ≤ 1 → has (wrong z o b) s ≡ cost z o b s
wrong-cost z o b s h = has-wrong z o b s ∙ go (has z s) (has o s) refl refl
  where
    go : (x y : ℕ) → has z s ≡ x → has o s ≡ y → min (max (has z s) (has o s)) ((has b s + has o s) % 2) ≡ cost z o b s
    go zero zero p q = let c = cost-neither z o b s (omega arith) in omega arith
    go (suc x) zero p q = let c = cost-zeros z o b s (omega arith) q in omega (arith, has-lt b s)
    go zero (suc y) p q = let c = cost-ones z o b s p (omega arith) in omega (arith, has-lt b s)
    go (suc x) (suc y) p q = absurd (omega arith)

pub wrong-lt : (n z o b : ℕ) → z < 2 ^ n → o < 2 ^ n → b < 2 ^ n → wrong z o b < 2 ^ n
wrong-lt n z o b p q r = and_lt n (bit_or z o) (bit_xor b o) (or_lt n z o p q) (xor_lt n b o r q)

module _ (n z o b : ℕ) (hz : z < 2 ^ n) (ho : o < 2 ^ n) (hb : b < 2 ^ n) (apart : Apart z o) where
  -- the count is the size of the mask
  pub change-size : must_change n z o b ≡ size (wrong z o b)
  unfolding must_change
  change-size = total-same n (cost z o b) (has (wrong z o b)) (λ s _. sym (wrong-cost z o b s (apart s))) ∙ sym (size-total n (wrong z o b) (wrong-lt n z o b hz ho hb))

  -- and is 0 where the mask is
  change-none : eqb (must_change n z o b) 0 ≡ eqb (wrong z o b) 0
  change-none = go (eqb (wrong z o b) 0) refl
    where
      lt : wrong z o b < 2 ^ n
      lt = wrong-lt n z o b hz ho hb

      go : (t : Bool) → eqb (wrong z o b) 0 ≡ t → eqb (must_change n z o b) 0 ≡ eqb (wrong z o b) 0
      go true e =
          let m : wrong z o b ≡ 0 = eqb-true (wrong z o b) 0 e in
          let c : size (wrong z o b) ≡ 0 = none-size n (wrong z o b) lt (λ s _. ap (λ (k : ℕ). has k s) m ∙ has-none s) in
          eq-eqb (must_change n z o b) 0 (change-size ∙ c) ∙ sym e
      go false e =
          ne_eqb (must_change n z o b) 0
          (λ h. eqb-false (wrong z o b) 0 e (same-mask n (wrong z o b) 0 lt (omega (arith, lt)) (λ s p. size_none n (wrong z o b) lt (sym change-size ∙ h) s p ∙ sym (has-none s))))
          ∙ sym e

module _ (n : ℕ) (r : Requirement) (b : ℕ) (hf : r.first < 2 ^ n) (hg : r.second < 2 ^ n) (hb : b < 2 ^ n) (apart : Apart r.first r.second) where
  -- meeting by 001's words is meeting by masks
  pub met-mask : met n r b ≡ met_mask r.first r.second b
  unfolding met_mask
  met-mask =
      met-counts n r b
      ∙ ap₂ ◌||◌ (change-none n r.first r.second b hf hg hb apart) (change-none n r.second r.first b hg hf hb (apart-turned r.first r.second apart))

  pub near-mask : near n r b ≡ near_mask r.first r.second b
  unfolding near near_mask
  near-mask =
      ap₂ (λ (k j : ℕ). leb k 1 || leb j 1) (change-size n r.first r.second b hf hg hb apart) (change-size n r.second r.first b hg hf hb (apart-turned r.first r.second apart))
