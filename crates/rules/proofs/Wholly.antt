-- A bit's value on a whole block, by masks. Over any width.
use mathlib.Core.Path.{◌≡◌, refl, sym, ap, ap₂, ◌∙◌}
use mathlib.Core.Bool.{Bool, true, false, ◌||◌}
use Prim.Native.Nat.{ℕ, zero, suc, ◌*◌, ◌^◌, ◌<◌, min}
use native.Mathlib.Nat.{zero-mul, one-mul}
use native.Mathlib.Omega.{arith}
use lib.Dec.{eqb}
use lib.Pow.{pow_pos}
use lib.Bits.{bit_and, and_le_r}
use borrow.Author.Tests.{eq-eqb, ne_eqb, eqb-true}
use Rattle.sets.specs.Sets.{has, every}
use Rattle.sets.proofs.Members.{has-lt, has-and, has-none, same-mask}
use Rattle.sets.proofs.Every.{every-at, at_every, every-same}
use Rattle.rules.specs.Requirements.{wholly}

-- two masks are equal where they have the same members
every-mask : (n a c : ℕ) → a < 2 ^ n → c < 2 ^ n → every n (λ s. eqb (has a s) (has c s)) ≡ eqb a c
every-mask n a c p q = go (every n (λ s. eqb (has a s) (has c s))) refl
  where
    go : (t : Bool) → every n (λ s. eqb (has a s) (has c s)) ≡ t → every n (λ s. eqb (has a s) (has c s)) ≡ eqb a c
    go true e = e ∙ sym (eq-eqb a c (same-mask n a c p q (λ s h. eqb-true (has a s) (has c s) (every-at n (λ s. eqb (has a s) (has c s)) e s h))))
    go false e =
        let not_same : a ≡ c → ⊥ = λ h. absurd (
        let all : every n (λ s. eqb (has a s) (has c s)) ≡ true = at_every n (λ s. eqb (has a s) (has c s)) (λ s _. eq-eqb (has a s) (has c s) (ap (λ (m : ℕ). has m s) h)) in
        let z : ◌≡◌ {A = ℕ} 0 1 = cc in
        omega arith
        ) in
        e ∙ sym (ne_eqb a c not_same)

-- one state: it is outside the group or has the value v
at-state : (x y v : ℕ) → x < 2 → y < 2 → v < 2 → (eqb x 0 || eqb y v) ≡ eqb (min y x) (v * x)
at-state zero y v p q r = sym (eq-eqb (min y 0) (v * 0) (omega arith))
at-state (suc zero) zero zero p q r = refl
at-state (suc zero) zero (suc zero) p q r = refl
at-state (suc zero) (suc zero) zero p q r = refl
at-state (suc zero) (suc zero) (suc zero) p q r = refl
at-state (suc zero) zero (suc (suc v)) p q r = absurd (omega arith)
at-state (suc zero) (suc zero) (suc (suc v)) p q r = absurd (omega arith)
at-state (suc zero) (suc (suc y)) v p q r = absurd (omega arith)
at-state (suc (suc x)) y v p q r = absurd (omega arith)

has-times : (v g s : ℕ) → v < 2 → has (v * g) s ≡ v * has g s
has-times zero g s h = ap (λ (m : ℕ). has m s) (zero-mul g) ∙ has-none s ∙ sym (zero-mul (has g s))
has-times (suc zero) g s h = ap (λ (m : ℕ). has m s) (one-mul g) ∙ sym (one-mul (has g s))
has-times (suc (suc v)) g s h = absurd (omega arith)

times-lt : (n v g : ℕ) → v < 2 → g < 2 ^ n → v * g < 2 ^ n
times-lt n zero g h p = rw (zero-mul g) (pow_pos n)
times-lt n (suc zero) g h p = rw (one-mul g) p
times-lt n (suc (suc v)) g h p = absurd (omega arith)

-- the bit has the value v on the whole group
wholly-mask : (n b v g : ℕ) → v < 2 → g < 2 ^ n → wholly n b v g ≡ eqb (bit_and b g) (v * g)
unfolding wholly
wholly-mask n b v g h p =
    every-same n (λ s. eqb (has g s) 0 || eqb (has b s) v) (λ s. eqb (has (bit_and b g) s) (has (v * g) s))
    (λ s _. at-state (has g s) (has b s) v (has-lt g s) (has-lt b s) h ∙ ap₂ eqb (sym (has-and b g s)) (sym (has-times v g s h)))
    ∙ every-mask n (bit_and b g) (v * g) (omega (arith, and_le_r b g)) (times-lt n v g h p)

pub wholly-zero : (n b g : ℕ) → g < 2 ^ n → wholly n b 0 g ≡ eqb (bit_and b g) 0
wholly-zero n b g p = wholly-mask n b 0 g (omega arith) p ∙ rw (zero-mul g)

pub wholly-one : (n b g : ℕ) → g < 2 ^ n → wholly n b 1 g ≡ eqb (bit_and b g) g
wholly-one n b g p = wholly-mask n b 1 g (omega arith) p ∙ rw (one-mul g)
