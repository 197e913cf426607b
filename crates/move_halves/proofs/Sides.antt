-- The two counts of a family's requirements: the sizes of the two sides, with one more where the state outside is not right.
use mathlib.Core.Path.{◌≡◌, refl, sym, ap, ap₂, ◌∙◌}
use Prim.Native.Nat.{ℕ, zero, suc, ◌+◌, ◌%◌, ◌^◌, ◌≤◌, ◌<◌, min, max}
use native.Mathlib.Decide.{ℕ_discrete}
use native.Mathlib.Omega.{arith}
use lib.Bits.{bit_and, bit_or, bit_xor, or_lt}
use lib.Pow.{pow-lt}
use Rattle.sets.specs.Sets.{has, only, size, total}
use Rattle.sets.proofs.Members.{has-lt, has-and, has-or, has-xor, has-only, has_other}
use Rattle.sets.proofs.Totals.{total-same, total-change}
use Rattle.sets.proofs.Size.{size-total}
use Rattle.rules.proofs.Counts.{cost, change-total, cost-zeros, cost-ones}
use Rattle.rules.proofs.Masks.{wrong-cost}
use Rattle.rules.proofs.Meeting.{one_way, other_way}
use Rattle.rules.proofs.Good.{Good}
use Rattle.families.specs.Families.{without, single, joined}
use Rattle.move_halves.specs.Halves.{side, back}
use Rattle.families.proofs.Parts.{part-lt, rest_lt, has_rest}

-- who must change, by who stands where
cost-is : (z o b u : ℕ) → has z u + has o u ≤ 1 → cost z o b u ≡ min (max (has z u) (has o u)) ((has b u + has o u) % 2)
cost-is z o b u h = sym (wrong-cost z o b u h) ∙ has-and (bit_or z o) (bit_xor b o) u ∙ ap₂ min (has-or z o u) (has-xor b o u)

pub has-side : (all flip b u : ℕ) → has (side all flip b) u ≡ min (has all u) ((has b u + has flip u) % 2)
has-side all flip b u = has-and all (bit_xor b flip) u ∙ ap (min (has all u)) (has-xor b flip u)

pub has-back : (all flip b u : ℕ) → has (back all flip b) u ≡ (has all u + min (has all u) ((has b u + has flip u) % 2)) % 2
has-back all flip b u = has-xor all (side all flip b) u ∙ ap (λ (d : ℕ). (has all u + d) % 2) (has-side all flip b u)

-- a fact of a digit is one of 0 and of 1
pub digit : (P : ℕ → Type 0) (d : ℕ) → d < 2 → P 0 → P 1 → P d
digit P zero h p q = p
digit P (suc zero) h p q = q
digit P (suc (suc d)) h p q = absurd (omega arith)

-- by the digits of a state in all, in flip and in the bit: where it stands, and whether it must change
abbrev One : ℕ → ℕ → ℕ → Type 0
One x y d = min (max ((x + min x y) % 2) (min x y)) ((d + min x y) % 2) ≡ min x ((d + y) % 2)

abbrev Other : ℕ → ℕ → ℕ → Type 0
Other x y d = min (max (min x y) ((x + min x y) % 2)) ((d + (x + min x y) % 2) % 2) ≡ (x + min x ((d + y) % 2)) % 2

one-digits : (x y d : ℕ) → x < 2 → y < 2 → d < 2 → One x y d
one-digits x y d p q r =
    digit (λ x. One x y d) x p
    (digit (λ y. One 0 y d) y q (digit (One 0 0) d r refl refl) (digit (One 0 1) d r refl refl))
    (digit (λ y. One 1 y d) y q (digit (One 1 0) d r refl refl) (digit (One 1 1) d r refl refl))

other-digits : (x y d : ℕ) → x < 2 → y < 2 → d < 2 → Other x y d
other-digits x y d p q r =
    digit (λ x. Other x y d) x p
    (digit (λ y. Other 0 y d) y q (digit (Other 0 0) d r refl refl) (digit (Other 0 1) d r refl refl))
    (digit (λ y. Other 1 y d) y q (digit (Other 1 0) d r refl refl) (digit (Other 1 1) d r refl refl))

module _ (all flip b u z o : ℕ) (p : has z u ≡ (has all u + min (has all u) (has flip u)) % 2) (q : has o u ≡ min (has all u) (has flip u)) where
  apart-at : has z u + has o u ≤ 1
  apart-at = omega (arith, has-lt all u, has-lt flip u)

  one-cost : cost z o b u ≡ has (side all flip b) u
  one-cost =
      cost-is z o b u apart-at
      ∙ ap₂ (λ (x y : ℕ). min (max x y) ((has b u + y) % 2)) p q
      ∙ one-digits (has all u) (has flip u) (has b u) (has-lt all u) (has-lt flip u) (has-lt b u)
      ∙ sym (has-side all flip b u)

  other-cost : cost o z b u ≡ has (back all flip b) u
  other-cost =
      cost-is o z b u (omega (arith, apart-at))
      ∙ ap₂ (λ (x y : ℕ). min (max y x) ((has b u + x) % 2)) p q
      ∙ other-digits (has all u) (has flip u) (has b u) (has-lt all u) (has-lt flip u) (has-lt b u)
      ∙ sym (has-back all flip b u)

-- the blocks of a family
module _ (n all flip b : ℕ) (ha : all < 2 ^ n) where
  side-lt : side all flip b < 2 ^ n
  side-lt = part-lt n all (bit_xor b flip) ha

  back-lt : back all flip b < 2 ^ n
  back-lt = rest_lt n all (bit_xor b flip) ha

  -- the requirement of the members in common alone
  pub single-one : one_way n (single all flip) b ≡ size (side all flip b)
  single-one =
      change-total n _ _ b
      ∙ total-same n _ (has (side all flip b)) (λ u _. one-cost all flip b u _ _ (has_rest all flip u) (has-and all flip u))
      ∙ sym (size-total n (side all flip b) side-lt)

  pub single-other : other_way n (single all flip) b ≡ size (back all flip b)
  single-other =
      change-total n _ _ b
      ∙ total-same n _ (has (back all flip b)) (λ u _. other-cost all flip b u _ _ (has_rest all flip u) (has-and all flip u))
      ∙ sym (size-total n (back all flip b) back-lt)

  -- with a state outside
  module _ (t : ℕ) (ht : t < n) (out : has all t ≡ 0) where
    has-second : (u : ℕ) → (u ≡ t → ⊥) → has (bit_or (bit_and all flip) (only t)) u ≡ min (has all u) (has flip u)
    has-second u d = omega (arith, has-or (bit_and all flip) (only t) u, has-and all flip u, has_other t u d)

    first-none : has (without all flip) t ≡ 0
    first-none = omega (arith, has_rest all flip t)

    second-one : has (bit_or (bit_and all flip) (only t)) t ≡ 1
    second-one = omega (arith, has-or (bit_and all flip) (only t) t, has-and all flip t, has-only t)

    pub joined-one : one_way n (joined all flip t) b + has b t ≡ size (side all flip b) + 1
    joined-one =
        let z : ℕ = without all flip in
        let o : ℕ = bit_or (bit_and all flip) (only t) in
        let c : one_way n (joined all flip t) b ≡ total n (cost z o b) = change-total n z o b in
        let d : total n (cost z o b) + has (side all flip b) t ≡ total n (has (side all flip b)) + cost z o b t =
        total-change n t (cost z o b) (has (side all flip b)) ht (λ u _ d. one-cost all flip b u z o (has_rest all flip u) (has-second u d)) in
        omega (arith, size-total n (side all flip b) side-lt, has-side all flip b t, cost-ones z o b t first-none second-one, has-lt b t)

    pub joined-other : other_way n (joined all flip t) b ≡ size (back all flip b) + has b t
    joined-other =
        let z : ℕ = without all flip in
        let o : ℕ = bit_or (bit_and all flip) (only t) in
        let c : other_way n (joined all flip t) b ≡ total n (cost o z b) = change-total n o z b in
        let d : total n (cost o z b) + has (back all flip b) t ≡ total n (has (back all flip b)) + cost o z b t =
        total-change n t (cost o z b) (has (back all flip b)) ht (λ u _ d. other-cost all flip b u z o (has_rest all flip u) (has-second u d)) in
        omega (arith, size-total n (back all flip b) back-lt, has-back all flip b t, cost-zeros o z b t second-one first-none, has-lt b t)

  -- they are requirements of n states
  pub single-good : Good n (single all flip)
  single-good = record {
    first = rest_lt n all flip ha;
    second = part-lt n all flip ha;
    apart = λ u. omega (arith, has_rest all flip u, has-and all flip u, has-lt all u, has-lt flip u);
  }

  pub joined-good : (t : ℕ) → t < n → has all t ≡ 0 → Good n (joined all flip t)
  joined-good t ht out = record {
    first = rest_lt n all flip ha;
    second = or_lt n (bit_and all flip) (only t) (part-lt n all flip ha) (pow-lt ht);
    apart = λ u. at u (ℕ_discrete u t);
  }
    where
      at : (u : ℕ) → Dec (u ≡ t) → has (without all flip) u + has (bit_or (bit_and all flip) (only t)) u ≤ 1
      at u (yes d) =
          let z : has (without all flip) u ≡ 0 = ap (has (without all flip)) d ∙ first-none t ht out in
          omega (arith, has-lt (bit_or (bit_and all flip) (only t)) u)
      at u (no d) = omega (arith, has_rest all flip u, has-second t ht out u d, has-lt all u, has-lt flip u)
