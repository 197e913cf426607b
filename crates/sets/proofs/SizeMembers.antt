-- The size of a set against its members: one member, two members, one state outside.
use mathlib.Core.Path.{◌≡◌, refl, sym, ap, ◌∙◌}
use mathlib.Core.Logic.{◌⊎◌, inl, inr, ⊎_elim}
use Prim.Native.Nat.{ℕ, zero, suc, ◌+◌, ◌/◌, ◌^◌, ◌≤◌, ◌<◌}
use native.Mathlib.Decide.{dec_lt, ℕ_discrete}
use native.Mathlib.Omega.{arith}
use lib.Arith.{lt-one}
use lib.Pow.{pow-lt}
use Rattle.sets.specs.Sets.{has, only, size, total}
use Rattle.sets.proofs.Members.{has-lt, has-zero, has-suc, half_lt, has-only, has_other, same-mask}
use Rattle.sets.proofs.Size.{size-total}

-- a state is outside, or a member
pub outside-or-member : (m s : ℕ) → (has m s ≡ 0) ⊎ (has m s ≡ 1)
outside-or-member m s = go (has m s) (has-lt m s)
  where
    go : (d : ℕ) → d < 2 → (d ≡ 0) ⊎ (d ≡ 1)
    go zero h = inl refl
    go (suc zero) h = inr refl
    go (suc (suc d)) h = absurd (omega arith)

-- ---- sums

part-of-total : (n : ℕ) (f : ℕ → ℕ) (s : ℕ) → s < n → f s ≤ total n f
unfolding total
part-of-total zero f s h = absurd (omega arith)
part-of-total (suc n) f zero h = omega arith
part-of-total (suc n) f (suc s) h = omega (arith, part-of-total n (λ t. f (suc t)) s (omega arith))

two-of-total : (n : ℕ) (f : ℕ → ℕ) (s t : ℕ) → s < t → t < n → f s + f t ≤ total n f
unfolding total
two-of-total zero f s t h q = absurd (omega arith)
two-of-total (suc n) f s zero h q = absurd (omega arith)
two-of-total (suc n) f zero (suc t) h q = omega (arith, part-of-total n (λ u. f (suc u)) t (omega arith))
two-of-total (suc n) f (suc s) (suc t) h q = omega (arith, two-of-total n (λ u. f (suc u)) s t (omega arith) (omega arith))

total-few : (n : ℕ) (f : ℕ → ℕ) → ((t : ℕ) → f t ≤ 1) → total n f ≤ n
unfolding total
total-few zero f h = omega arith
total-few (suc n) f h = omega (arith, h 0, total-few n (λ t. f (suc t)) (λ t. h (suc t)))

total-fewer : (n : ℕ) (f : ℕ → ℕ) → ((t : ℕ) → f t ≤ 1) → (s : ℕ) → s < n → f s ≡ 0 → total n f < n
unfolding total
total-fewer zero f h s q e = absurd (omega arith)
total-fewer (suc n) f h zero q e = omega (arith, total-few n (λ t. f (suc t)) (λ t. h (suc t)))
total-fewer (suc n) f h (suc s) q e = omega (arith, h 0, total-fewer n (λ t. f (suc t)) (λ t. h (suc t)) s (omega arith) e)

-- ---- sizes

module _ (n m : ℕ) (fits : m < 2 ^ n) where
  pub member-size : (s : ℕ) → s < n → has m s ≡ 1 → 1 ≤ size m
  member-size s h e = omega (arith, size-total n m fits, part-of-total n (has m) s h)

  pub two-members : (s t : ℕ) → s < n → t < n → (s ≡ t → ⊥) → has m s ≡ 1 → has m t ≡ 1 → 2 ≤ size m
  two-members s t h q o e f = go (dec_lt s t)
    where
      go : Dec (s < t) → 2 ≤ size m
      go (yes l) = omega (arith, size-total n m fits, two-of-total n (has m) s t l q)
      go (no l) = omega (arith, size-total n m fits, two-of-total n (has m) t s (omega arith) h)

  pub outside-size : (s : ℕ) → s < n → has m s ≡ 0 → size m < n
  outside-size s h e = omega (arith, size-total n m fits, total-fewer n (has m) (λ t. omega (arith, has-lt m t)) s h e)

  pub size_few : size m ≤ n
  size_few = omega (arith, size-total n m fits, total-few n (has m) (λ t. omega (arith, has-lt m t)))

-- a set that is not empty has a member
pub some-member : (n m : ℕ) → m < 2 ^ n → (m ≡ 0 → ⊥) → (s : ℕ) × (s < n) × (has m s ≡ 1)
some-member zero m h o = absurd (o (lt-one h))
some-member (suc n) m h o =
    ⊎_elim
    (λ z. let r = some-member n (m / 2) (half_lt n h) (λ q. o (omega (arith, has-zero m))) in (suc r.0, omega (arith, r.1), has-suc m r.0 ∙ r.2))
    (λ z. (0, omega arith, z))
    (outside-or-member m 0)

-- a set of at most one member is empty, or has one state alone
pub at_most_one : (n m : ℕ) → m < 2 ^ n → size m ≤ 1 → (m ≡ 0) ⊎ ((s : ℕ) × (s < n) × (m ≡ only s))
at_most_one n m h e = go (ℕ_discrete m 0)
  where
    alone : (s : ℕ) → s < n → has m s ≡ 1 → m ≡ only s
    alone s l p = same-mask n m (only s) h (pow-lt l) (λ t q. each t q (ℕ_discrete t s))
      where
        each : (t : ℕ) → t < n → Dec (t ≡ s) → has m t ≡ has (only s) t
        each t q (yes z) = ap (has m) z ∙ p ∙ sym (ap (has (only s)) z ∙ has-only s)
        each t q (no o) =
            ⊎_elim (λ z. z) (λ z. absurd (omega (arith, two-members n m h s t l q (λ y. o (sym y)) p z))) (outside-or-member m t)
            ∙ sym (has_other s t o)

    go : Dec (m ≡ 0) → (m ≡ 0) ⊎ ((s : ℕ) × (s < n) × (m ≡ only s))
    go (yes z) = inl z
    go (no o) = let r = some-member n m h o in inr (r.0, r.1, alone r.0 r.1 r.2)
