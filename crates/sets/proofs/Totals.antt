-- Sums over the states below n.
use mathlib.Core.Path.{◌≡◌, refl, ap₂}
use Prim.Native.Nat.{ℕ, zero, suc, ◌+◌, ◌<◌}
use native.Mathlib.Omega.{arith}
use Rattle.sets.specs.Sets.{total}

pub total-same : (n : ℕ) (f g : ℕ → ℕ) → ((t : ℕ) → t < n → f t ≡ g t) → total n f ≡ total n g
unfolding total
total-same zero f g h = refl
total-same (suc n) f g h = ap₂ (λ (a b : ℕ). a + b) (h 0 (omega arith)) (total-same n (λ s. f (suc s)) (λ s. g (suc s)) (λ t p. h (suc t) (omega arith)))

-- f and g differ at s alone
pub total-change : (n s : ℕ) (f g : ℕ → ℕ) → s < n → ((t : ℕ) → t < n → (t ≡ s → ⊥) → f t ≡ g t) → total n f + g s ≡ total n g + f s
unfolding total
total-change zero s f g p h = absurd (omega arith)
total-change (suc n) zero f g p h =
    let e : total n (λ s. f (suc s)) ≡ total n (λ s. g (suc s)) = total-same n (λ s. f (suc s)) (λ s. g (suc s)) (λ t q. h (suc t) (omega arith) (λ r. omega arith)) in
    omega arith
total-change (suc n) (suc s) f g p h =
    let e : total n (λ s. f (suc s)) + g (suc s) ≡ total n (λ s. g (suc s)) + f (suc s) = total-change n s (λ s. f (suc s)) (λ s. g (suc s)) (omega arith) (λ t q o. h (suc t) (omega arith) (λ r. o (omega arith))) in
    let z : f 0 ≡ g 0 = h 0 (omega arith) (λ r. omega arith) in
    omega arith

-- a sum is 0 exactly when every part is
pub total-none : (n : ℕ) (f : ℕ → ℕ) → total n f ≡ 0 → (s : ℕ) → s < n → f s ≡ 0
unfolding total
total-none zero f e s p = absurd (omega arith)
total-none (suc n) f e zero p = omega arith
total-none (suc n) f e (suc s) p = total-none n (λ s. f (suc s)) (omega arith) s (omega arith)

pub none-total : (n : ℕ) (f : ℕ → ℕ) → ((s : ℕ) → s < n → f s ≡ 0) → total n f ≡ 0
unfolding total
none-total zero f h = refl
none-total (suc n) f h =
    let a : f 0 ≡ 0 = h 0 (omega arith) in
    let b : total n (λ s. f (suc s)) ≡ 0 = none-total n (λ s. f (suc s)) (λ s p. h (suc s) (omega arith)) in
    omega arith
