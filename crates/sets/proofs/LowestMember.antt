-- The lowest member of a set.
use mathlib.Core.Path.{◌≡◌, refl, sym, ap, ap₂, ◌∙◌, subst}
use mathlib.Core.Bool.{Bool, cond}
use Prim.Native.Nat.{ℕ, zero, suc, ◌+◌, ◌-◌, ◌*◌, ◌/◌, ◌%◌, ◌^◌, ◌<◌, min}
use native.Mathlib.Nat.{pow-suc}
use native.Mathlib.Omega.{arith}
use lib.Arith.{lt-one}
use lib.Bits.{bit_and, bit_xor, differ, and_step, and_self, xor_step, xor_zero_r}
use lib.Count.{count_trailing_zeros, under}
use borrow.Author.Tests.{eq-eqb, ne_eqb}
use Rattle.sets.specs.Sets.{has, flip, size, without_lowest}
use Rattle.sets.proofs.Members.{has-zero, has-suc, half_lt, flip-lt}
use Rattle.sets.proofs.Size.{size-flip}

-- a set that is not empty has it
pub lowest-has : (n m : ℕ) → m < 2 ^ n → 0 < m → (count_trailing_zeros n m < n) × (has m (count_trailing_zeros n m) ≡ 1)
unfolding count_trailing_zeros
lowest-has zero m p q = absurd (omega (arith, lt-one p))
lowest-has (suc n) m p q = go (m % 2) refl (λ h. lowest-has n (m / 2) (half_lt n p) h)
  where
    go : (d : ℕ) → m % 2 ≡ d → (0 < m / 2 → (count_trailing_zeros n (m / 2) < n) × (has (m / 2) (count_trailing_zeros n (m / 2)) ≡ 1))
        → (under d (count_trailing_zeros n (m / 2)) < suc n) × (has m (under d (count_trailing_zeros n (m / 2))) ≡ 1)
    go zero e later = let r = later (omega arith) in ((let h = r.0 in omega arith), has-suc m (count_trailing_zeros n (m / 2)) ∙ r.1)
    go (suc d) e later = (omega arith, has-zero m ∙ omega arith)

-- the same of a mask of 64 digits, as code finds it
pub lowest-at : (m s : ℕ) → m < 2 ^ 64 → (m ≡ 0 → ⊥) → s ≡ count_trailing_zeros 64 m → (s < 64) × (has m s ≡ 1)
lowest-at m s p o e = subst (λ (i : ℕ). (i < 64) × (has m i ≡ 1)) (sym e) (lowest-has 64 m p (omega arith))

-- and none below it
pub lowest-least : (n m i : ℕ) → i < count_trailing_zeros n m → has m i ≡ 0
unfolding count_trailing_zeros
lowest-least zero m i h = absurd (omega arith)
lowest-least (suc n) m i h = go (m % 2) refl i h (λ j. lowest-least n (m / 2) j)
  where
    go : (d : ℕ) → m % 2 ≡ d → (i : ℕ) → i < under d (count_trailing_zeros n (m / 2)) → ((j : ℕ) → j < count_trailing_zeros n (m / 2) → has (m / 2) j ≡ 0)
        → has m i ≡ 0
    go zero e zero p later = has-zero m ∙ e
    go zero e (suc i) p later = has-suc m i ∙ later i (omega arith)
    go (suc d) e i p later = absurd (omega arith)

-- taking 1 off turns the lowest member over and all below it, so what both have is the set without it
pub less_one : (n m : ℕ) → m < 2 ^ n → 0 < m → bit_and m (m - 1) ≡ flip m (count_trailing_zeros n m)
unfolding count_trailing_zeros
less_one zero m p q = absurd (omega (arith, lt-one p))
less_one (suc n) m p q = go (m % 2) refl (λ h. less_one n (m / 2) (half_lt n p) h)
  where
    go : (d : ℕ) → m % 2 ≡ d → (0 < m / 2 → bit_and (m / 2) (m / 2 - 1) ≡ flip (m / 2) (count_trailing_zeros n (m / 2)))
        → bit_and m (m - 1) ≡ flip m (under d (count_trailing_zeros n (m / 2)))
    go zero e later =
        let k : ℕ = count_trailing_zeros n (m / 2) in
        let h : (m - 1) / 2 ≡ m / 2 - 1 = omega arith in
        let u : 2 ^ suc k / 2 ≡ 2 ^ k = ap (λ (x : ℕ). x / 2) (pow-suc 2 k) ∙ omega arith in
        let v : 2 ^ suc k % 2 ≡ 0 = ap (λ (x : ℕ). x % 2) (pow-suc 2 k) ∙ omega arith in
        let l : bit_and m (m - 1) ≡ bit_and (m / 2) (m / 2 - 1) * 2 + min 0 ((m - 1) % 2) =
        and_step m (m - 1) ∙ ap₂ (λ (x y : ℕ). bit_and (m / 2) x * 2 + min y ((m - 1) % 2)) h e in
        let r : bit_xor m (2 ^ suc k) ≡ bit_xor (m / 2) (2 ^ k) * 2 + differ (m % 2) (2 ^ suc k % 2) =
        xor_step m (2 ^ suc k) ∙ ap (λ (x : ℕ). bit_xor (m / 2) x * 2 + differ (m % 2) (2 ^ suc k % 2)) u in
        let o : differ (m % 2) (2 ^ suc k % 2) ≡ 0 = ap₂ differ e v in
        omega (arith, l, r, o, later (omega arith))
    go (suc d) e later =
        let h : (m - 1) / 2 ≡ m / 2 = omega arith in
        let z : (m - 1) % 2 ≡ 0 = omega arith in
        let l : bit_and m (m - 1) ≡ m / 2 * 2 + min (m % 2) ((m - 1) % 2) =
        and_step m (m - 1)
        ∙ ap (λ (x : ℕ). x * 2 + min (m % 2) ((m - 1) % 2)) (ap (bit_and (m / 2)) h ∙ and_self (m / 2)) in
        let r : bit_xor m 1 ≡ m / 2 * 2 + differ (m % 2) 1 = xor_step m 1 ∙ ap (λ (x : ℕ). x * 2 + differ (m % 2) 1) (xor_zero_r (m / 2)) in
        let o : differ (m % 2) 1 ≡ 0 = (let c : m % 2 ≡ 1 = omega arith in ap (λ (x : ℕ). differ x 1) c) in
        omega (arith, l, r, o, z)

pub without-none : (m : ℕ) → m ≡ 0 → without_lowest m ≡ 0
unfolding without_lowest
without-none m e = ap (λ (t : Bool). cond t 0 (flip m (count_trailing_zeros 64 m))) (eq-eqb m 0 e)

pub without-some : (m : ℕ) → (m ≡ 0 → ⊥) → without_lowest m ≡ flip m (count_trailing_zeros 64 m)
unfolding without_lowest
without-some m o = ap (λ (t : Bool). cond t 0 (flip m (count_trailing_zeros 64 m))) (ne_eqb m 0 o)

-- the same, as a loop over the members finds it
pub without_at : (m s r : ℕ) → (m ≡ 0 → ⊥) → s ≡ count_trailing_zeros 64 m → r ≡ without_lowest m → r ≡ flip m s
without_at m s r o e h = h ∙ without-some m o ∙ ap (flip m) (sym e)

-- it is a set of as many states, with fewer members
pub without-lt : (m s r : ℕ) → m < 2 ^ 64 → (m ≡ 0 → ⊥) → s ≡ count_trailing_zeros 64 m → r ≡ without_lowest m → r < 2 ^ 64
without-lt m s r p o e h = rw (without_at m s r o e h) (flip-lt 64 m s p (lowest-at m s p o e).0)

pub without_fewer : (m s r : ℕ) → m < 2 ^ 64 → (m ≡ 0 → ⊥) → s ≡ count_trailing_zeros 64 m → r ≡ without_lowest m → size r < size m
without_fewer m s r p o e h =
    let l = lowest-at m s p o e in
    rw (without_at m s r o e h) (let c = size-flip 64 m s p l.0 in let g = l.1 in omega arith)
