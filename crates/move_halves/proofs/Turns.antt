-- The halves of a family at bits that differ: by the flip of one state, and by the moved state alone.
use mathlib.Core.Path.{◌≡◌, refl, sym, ap, ap₂, ◌∙◌, subst}
use Prim.Native.Nat.{ℕ, ◌+◌, ◌-◌, ◌%◌, ◌^◌, ◌<◌, min}
use native.Mathlib.Decide.{ℕ_discrete}
use native.Mathlib.Omega.{arith}
use lib.Bits.{bit_and, bit_xor, xor_lt}
use Rattle.sets.specs.Sets.{has, only, flip as turn, size}
use Rattle.sets.proofs.Members.{has-lt, has-and, has-xor, has-only, has_other, has-flip, has-flip-other, same-mask}
use Rattle.sets.proofs.Size.{size-change}
use Rattle.families.specs.Families.{without}
use Rattle.move_halves.specs.Halves.{side, back, ones, zeros, side_but, back_but}
use Rattle.move_halves.proofs.Levels.{turned}
use Rattle.families.proofs.Parts.{part-lt, rest_lt, has_rest}
use Rattle.move_halves.proofs.Sides.{digit, has-side, has-back}

-- two bits that differ at most at s
abbrev pub Agree : ℕ → ℕ → ℕ → Type 0
Agree s c d = (t : ℕ) → (t ≡ s → ⊥) → has c t ≡ has d t

pub agree-turn : (s c d k : ℕ) → Agree s c d → Agree s (turn c k) (turn d k)
agree-turn s c d k h t o = go (ℕ_discrete t k)
  where
    go : Dec (t ≡ k) → has (turn c k) t ≡ has (turn d k) t
    go (yes e) =
        subst (λ (v : ℕ). has (turn c v) t ≡ has (turn d v) t) e (has-flip c t ∙ ap (λ (x : ℕ). 1 - x) (h t o) ∙ sym (has-flip d t))
    go (no e) = has-flip-other c k t e ∙ h t o ∙ sym (has-flip-other d k t e)

-- ---- masks

-- the digits of a side turned over, and of the side at the bit turned over
digits-side : (x f c e : ℕ) → x < 2 → f < 2 → c < 2 → e < 2 → (min x ((c + f) % 2) + min x e) % 2 ≡ min x (((c + e) % 2 + f) % 2)
digits-side x f c e p q r w =
    digit (λ x. (min x ((c + f) % 2) + min x e) % 2 ≡ min x (((c + e) % 2 + f) % 2)) x p
    (digit (λ e. (min 0 ((c + f) % 2) + min 0 e) % 2 ≡ min 0 (((c + e) % 2 + f) % 2)) e w (omega arith) (omega arith))
    (digit (λ e. (min 1 ((c + f) % 2) + min 1 e) % 2 ≡ min 1 (((c + e) % 2 + f) % 2)) e w (omega arith)
    (digit (λ f. (min 1 ((c + f) % 2) + min 1 1) % 2 ≡ min 1 (((c + 1) % 2 + f) % 2)) f q
    (digit (λ c. (min 1 ((c + 0) % 2) + min 1 1) % 2 ≡ min 1 (((c + 1) % 2 + 0) % 2)) c r refl refl)
    (digit (λ c. (min 1 ((c + 1) % 2) + min 1 1) % 2 ≡ min 1 (((c + 1) % 2 + 1) % 2)) c r refl refl)))

module _ (n all flip : ℕ) (ha : all < 2 ^ n) where
  side-fits : (c : ℕ) → side all flip c < 2 ^ n
  side-fits c = part-lt n all (bit_xor c flip) ha

  back_fits : (c : ℕ) → back all flip c < 2 ^ n
  back_fits c = rest_lt n all (bit_xor c flip) ha

  -- the flip of k turns it over in the side, if it is a member in common
  pub side-turned : (c k : ℕ) → turned all (side all flip c) k ≡ side all flip (turn c k)
  side-turned c k =
      same-mask n (turned all (side all flip c) k) (side all flip (turn c k)) (xor_lt n (side all flip c) (bit_and all (only k)) (side-fits c) (part-lt n all (only k) ha)) (side-fits (turn c k))
      (λ t _. each t)
    where
      each : (t : ℕ) → has (turned all (side all flip c) k) t ≡ has (side all flip (turn c k)) t
      each t =
          has-xor (side all flip c) (bit_and all (only k)) t
          ∙ ap₂ (λ (x y : ℕ). (x + y) % 2) (has-side all flip c t) (has-and all (only k) t)
          ∙ digits-side (has all t) (has flip t) (has c t) (has (only k) t) (has-lt all t) (has-lt flip t) (has-lt c t) (has-lt (only k) t)
          ∙ sym (has-side all flip (turn c k) t ∙ ap (λ (x : ℕ). min (has all t) ((x + has flip t) % 2)) (has-xor c (only k) t))

  pub back-turned : (c k : ℕ) → turned all (back all flip c) k ≡ back all flip (turn c k)
  back-turned c k =
      same-mask n (turned all (back all flip c) k) (back all flip (turn c k)) (xor_lt n (back all flip c) (bit_and all (only k)) (back_fits c) (part-lt n all (only k) ha)) (back_fits (turn c k))
      (λ t _. each t)
    where
      over : (x y z : ℕ) → ((x + y) % 2 + z) % 2 ≡ (x + (y + z) % 2) % 2
      over x y z = omega arith

      each : (t : ℕ) → has (turned all (back all flip c) k) t ≡ has (back all flip (turn c k)) t
      each t =
          has-xor (back all flip c) (bit_and all (only k)) t
          ∙ ap (λ (x : ℕ). (x + has (bit_and all (only k)) t) % 2) (has-xor all (side all flip c) t)
          ∙ over (has all t) (has (side all flip c) t) (has (bit_and all (only k)) t)
          ∙ ap (λ (x : ℕ). (has all t + x) % 2) (sym (has-xor (side all flip c) (bit_and all (only k)) t) ∙ ap (λ (m : ℕ). has m t) (side-turned c k))
          ∙ sym (has-xor all (side all flip (turn c k)) t)

  -- bits that differ at a state that is no member in common have the same sides
  module _ (s c d : ℕ) (h : Agree s c d) where
    pub side-agrees : has all s ≡ 0 → side all flip c ≡ side all flip d
    side-agrees e = same-mask n (side all flip c) (side all flip d) (side-fits c) (side-fits d) (λ t _. each t (ℕ_discrete t s))
      where
        each : (t : ℕ) → Dec (t ≡ s) → has (side all flip c) t ≡ has (side all flip d) t
        each t (yes z) = let y : has all t ≡ 0 = ap (has all) z ∙ e in omega (arith, has-side all flip c t, has-side all flip d t)
        each t (no o) = has-side all flip c t ∙ ap (λ (x : ℕ). min (has all t) ((x + has flip t) % 2)) (h t o) ∙ sym (has-side all flip d t)

    pub back-agrees : has all s ≡ 0 → back all flip c ≡ back all flip d
    back-agrees e = ap (bit_xor all) (side-agrees e)

    -- without s the sides are those that have it not
    pub side-without : has (side all flip c) s ≡ 0 → side_but all flip d s ≡ side all flip c
    side-without e =
        same-mask n (side_but all flip d s) (side all flip c) (part-lt n (without all (only s)) (bit_xor d flip) (rest_lt n all (only s) ha)) (side-fits c) (λ t _. each t (ℕ_discrete t s))
      where
        each : (t : ℕ) → Dec (t ≡ s) → has (side_but all flip d s) t ≡ has (side all flip c) t
        each t (yes z) =
            let i : has (only s) t ≡ 1 = ap (has (only s)) z ∙ has-only s in
            let y : has (without all (only s)) t ≡ 0 = omega (arith, has_rest all (only s) t, has-lt all t) in
            omega (arith, has-side (without all (only s)) flip d t, ap (has (side all flip c)) z)
        each t (no o) =
            let y : has (without all (only s)) t ≡ has all t = omega (arith, has_rest all (only s) t, has_other s t o, has-lt all t) in
            has-side (without all (only s)) flip d t ∙ ap₂ (λ (x y : ℕ). min x ((y + has flip t) % 2)) y (sym (h t o)) ∙ sym (has-side all flip c t)

    pub back-without : has (back all flip c) s ≡ 0 → back_but all flip d s ≡ back all flip c
    back-without e =
        same-mask n (back_but all flip d s) (back all flip c) (rest_lt n (without all (only s)) (bit_xor d flip) (rest_lt n all (only s) ha)) (back_fits c) (λ t _. each t (ℕ_discrete t s))
      where
        each : (t : ℕ) → Dec (t ≡ s) → has (back_but all flip d s) t ≡ has (back all flip c) t
        each t (yes z) =
            let i : has (only s) t ≡ 1 = ap (has (only s)) z ∙ has-only s in
            let y : has (without all (only s)) t ≡ 0 = omega (arith, has_rest all (only s) t, has-lt all t) in
            omega (arith, has-back (without all (only s)) flip d t, ap (has (back all flip c)) z)
        each t (no o) =
            let y : has (without all (only s)) t ≡ has all t = omega (arith, has_rest all (only s) t, has_other s t o, has-lt all t) in
            has-back (without all (only s)) flip d t ∙ ap₂ (λ (x y : ℕ). (x + min x ((y + has flip t) % 2)) % 2) y (sym (h t o)) ∙ sym (has-back all flip c t)

-- ---- what a half is worth

module _ (n o : ℕ) (ho : o < 2 ^ n) where
  ones-fits : (c : ℕ) → ones o c < 2 ^ n
  ones-fits c = part-lt n o c ho

  zeros-fits : (c : ℕ) → zeros o c < 2 ^ n
  zeros-fits c = rest_lt n o c ho

  module _ (s c d : ℕ) (h : Agree s c d) where
    ones-other : (t : ℕ) → (t ≡ s → ⊥) → has (ones o c) t ≡ has (ones o d) t
    ones-other t z = has-and o c t ∙ ap (min (has o t)) (h t z) ∙ sym (has-and o d t)

    zeros-other : (t : ℕ) → (t ≡ s → ⊥) → has (zeros o c) t ≡ has (zeros o d) t
    zeros-other t z = has_rest o c t ∙ ap (λ (x : ℕ). (has o t + min (has o t) x) % 2) (h t z) ∙ sym (has_rest o d t)

    pub ones-agree : has o s ≡ 0 → ones o c ≡ ones o d
    ones-agree e = same-mask n (ones o c) (ones o d) (ones-fits c) (ones-fits d) (λ t _. each t (ℕ_discrete t s))
      where
        each : (t : ℕ) → Dec (t ≡ s) → has (ones o c) t ≡ has (ones o d) t
        each t (yes z) = let y : has o t ≡ 0 = ap (has o) z ∙ e in omega (arith, has-and o c t, has-and o d t)
        each t (no z) = ones-other t z

    pub zeros-agree : has o s ≡ 0 → zeros o c ≡ zeros o d
    zeros-agree e = ap (bit_xor o) (ones-agree e)

    -- what is right in half 1 changes at s alone
    pub ones-size : s < n → size (ones o c) + has (ones o d) s ≡ size (ones o d) + has (ones o c) s
    ones-size hs = size-change n (ones o c) (ones o d) s (ones-fits c) (ones-fits d) hs ones-other

    pub zeros-size : s < n → size (zeros o c) + has (zeros o d) s ≡ size (zeros o d) + has (zeros o c) s
    zeros-size hs = size-change n (zeros o c) (zeros o d) s (zeros-fits c) (zeros-fits d) hs zeros-other

  -- a state outside is right in the one half or in the other, and its flip changes that
  pub ones-zeros : (c k : ℕ) → has (ones o (turn c k)) k ≡ has (zeros o c) k
  ones-zeros c k = has-and o (turn c k) k ∙ ap (min (has o k)) (has-flip c k) ∙ go (has o k) (has-lt o k) (has c k) (has-lt c k) ∙ sym (has_rest o c k)
    where
      go : (x : ℕ) → x < 2 → (y : ℕ) → y < 2 → min x (1 - y) ≡ (x + min x y) % 2
      go x p y q = digit (λ x. min x (1 - y) ≡ (x + min x y) % 2) x p (digit (λ y. min 0 (1 - y) ≡ (0 + min 0 y) % 2) y q refl refl) (digit (λ y. min 1 (1 - y) ≡ (1 + min 1 y) % 2) y q refl refl)

  pub zeros-ones : (c k : ℕ) → has (zeros o (turn c k)) k ≡ has (ones o c) k
  zeros-ones c k = has_rest o (turn c k) k ∙ ap (λ (y : ℕ). (has o k + min (has o k) y) % 2) (has-flip c k) ∙ go (has o k) (has-lt o k) (has c k) (has-lt c k) ∙ sym (has-and o c k)
    where
      go : (x : ℕ) → x < 2 → (y : ℕ) → y < 2 → (x + min x (1 - y)) % 2 ≡ min x y
      go x p y q = digit (λ x. (x + min x (1 - y)) % 2 ≡ min x y) x p (digit (λ y. (0 + min 0 (1 - y)) % 2 ≡ min 0 y) y q refl refl) (digit (λ y. (1 + min 1 (1 - y)) % 2 ≡ min 1 y) y q refl refl)
