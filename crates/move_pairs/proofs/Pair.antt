-- One pair: it is met where its two states have different values, and every move of one of them looks at it.
use mathlib.Core.Path.{◌≡◌, refl, sym, ap, ap₂, ◌∙◌, subst}
use mathlib.Core.Bool.{true, false}
use Prim.Native.Nat.{ℕ, zero, suc, ◌+◌, ◌-◌, ◌%◌, ◌^◌, ◌≤◌, ◌<◌, min}
use native.Mathlib.Omega.{arith}
use lib.Bits.{bit_and, bit_or, bit_xor, and_comm, and_self, and_zero_l, and_zero_r, or_zero_l, xor_self, xor_zero_r}
use lib.Dec.{leb}
use lib.Pow.{pow-lt}
use borrow.Author.Tests.{le-leb}
use Rattle.sets.specs.Sets.{has, only, size}
use Rattle.sets.proofs.Members.{has-lt, has-only, has_other}
use Rattle.sets.proofs.Size.{size-zero, size-only}
use Rattle.rules.specs.Requirements.{asks}
use Rattle.rules.specs.Looks.{looks_at}
use Rattle.rules.specs.declared.Requirement.{Requirement}
use Rattle.rules.proofs.Or.{or-first}
use Rattle.rules.proofs.Good.{Good}
use Rattle.move_table.proofs.Shares.{is_met}
use Rattle.families.specs.Families.{without, joined}
use Rattle.move_halves.specs.Halves.{side, back, held_by, side_but, back_but}
use Rattle.move_halves.proofs.Levels.{only-in, only_out}
use Rattle.families.proofs.Parts.{rest_lt}
use Rattle.move_halves.proofs.Sums.{size-parts}
use Rattle.move_halves.proofs.Sides.{digit, joined-good}
use Rattle.move_halves.proofs.Meets.{joined-met}
use Rattle.move_halves.proofs.Looking.{joined-look, own-look, joined-none}

abbrev pub pair : ℕ → ℕ → Requirement
pair i j = asks (only i) (only j)

-- 1 where the values of i and j differ at the bit x
abbrev pub unlike : ℕ → ℕ → ℕ → ℕ
unlike x i j = (has x i + has x j) % 2

-- a pair is the requirement of a family of one state
pair-joined : (i j : ℕ) → joined (only i) 0 j ≡ pair i j
pair-joined i j =
    ap₂ asks
    (ap (bit_xor (only i)) (and_zero_r (only i)) ∙ xor_zero_r (only i))
    (ap (λ (m : ℕ). bit_or m (only j)) (and_zero_r (only i)) ∙ or_zero_l (only j))

module _ (n i j : ℕ) (hi : i < n) (hj : j < n) (apart : j ≡ i → ⊥) where
  pub pair-good : Good n (pair i j)
  pair-good = subst (Good n) (pair-joined i j) (joined-good n (only i) 0 0 (pow-lt hi) j hj (has_other i j apart))

  pub pair-met : (x : ℕ) → is_met n (pair i j) x ≡ unlike x i j
  pair-met x =
      ap (λ (r : Requirement). is_met n r x) (sym (pair-joined i j))
      ∙ joined-met n (only i) 0 x (pow-lt hi) j hj (has_other i j apart)
      ∙ ap₂ (λ (k m : ℕ). held_by k (has x j) + held_by m (1 - has x j)) size-side size_back
      ∙ values (has x i) (has-lt x i) (has x j) (has-lt x j)
    where
      size-side : size (side (only i) 0 x) ≡ has x i
      size-side = ap size (and_comm (only i) (bit_xor x 0) ∙ ap (λ (m : ℕ). bit_and m (only i)) (xor_zero_r x)) ∙ go (has x i) refl
        where
          go : (d : ℕ) → has x i ≡ d → size (bit_and x (only i)) ≡ has x i
          go zero e = ap size (only_out x i e) ∙ size-zero ∙ sym e
          go (suc d) e = let f : has x i ≡ 1 = omega (arith, has-lt x i) in ap size (only-in x i f) ∙ size-only i ∙ sym f

      size_back : size (back (only i) 0 x) ≡ 1 - has x i
      size_back = omega (arith, size-parts n (only i) (bit_xor x 0) (pow-lt hi), size-only i, size-side)

      values : (c : ℕ) → c < 2 → (d : ℕ) → d < 2 → held_by c d + held_by (1 - c) (1 - d) ≡ (c + d) % 2
      values c p d q =
          digit (λ c. held_by c d + held_by (1 - c) (1 - d) ≡ (c + d) % 2) c p
          (digit (λ d. held_by 0 d + held_by 1 (1 - d) ≡ (0 + d) % 2) d q refl refl)
          (digit (λ d. held_by 1 d + held_by 0 (1 - d) ≡ (1 + d) % 2) d q refl refl)

  -- the move of i, of j, and of another state
  near_first : (x y d : ℕ) → x ≡ 0 → y ≡ 0 → d < 2 → leb (min (x + (1 - d)) (y + d)) 1 ≡ true
  near_first x y d e f h = le-leb (min (x + (1 - d)) (y + d)) 1 (omega arith)

  pub look-first : (b : ℕ) → looks_at n (pair i j) b i ≡ true
  look-first b =
      let w : ℕ = without (only i) (only i) in
      let z : w ≡ 0 = ap (bit_xor (only i)) (and_self (only i)) ∙ xor_self (only i) in
      let x : size (side_but (only i) 0 b i) ≡ 0 = ap (λ (k : ℕ). size (bit_and k (bit_xor b 0))) z ∙ ap size (and_zero_l (bit_xor b 0)) ∙ size-zero in
      let y : size (back_but (only i) 0 b i) ≡ 0 = ap (λ (k : ℕ). size (bit_xor k (bit_and k (bit_xor b 0)))) z ∙ ap (λ (k : ℕ). size (bit_xor 0 k)) (and_zero_l (bit_xor b 0)) ∙ size-zero in
      ap (λ (r : Requirement). looks_at n r b i) (sym (pair-joined i j))
      ∙ joined-look n (only i) 0 b i (pow-lt hi) hi (has-only i) j hj (has_other i j apart)
      ∙ near_first (size (side_but (only i) 0 b i)) (size (back_but (only i) 0 b i)) (has b j) x y (has-lt b j)

  pub look-second : (b : ℕ) → looks_at n (pair i j) b j ≡ true
  look-second b =
      let fits : without (only i) (only j) < 2 ^ n = rest_lt n (only i) (only j) (pow-lt hi) in
      let small : size (without (only i) (only j)) ≤ 1 = omega (arith, size-parts n (only i) (only j) (pow-lt hi), size-only i) in
      ap (λ (r : Requirement). looks_at n r b j) (sym (pair-joined i j))
      ∙ own-look n (only i) 0 b j (pow-lt hi) hj (has_other i j apart)
      ∙ or-first (leb (size (side_but (only i) 0 b j)) 1) (leb (size (back_but (only i) 0 b j)) 1)
      (le-leb (size (side_but (only i) 0 b j)) 1 (omega (arith, size-parts n (without (only i) (only j)) (bit_xor b 0) fits)))

  pub look_none : (b s : ℕ) → s < n → (s ≡ i → ⊥) → (s ≡ j → ⊥) → looks_at n (pair i j) b s ≡ false
  look_none b s hs o q =
      ap (λ (r : Requirement). looks_at n r b s) (sym (pair-joined i j)) ∙ joined-none n (only i) 0 b s (pow-lt hi) hs (has_other i s o) j q
