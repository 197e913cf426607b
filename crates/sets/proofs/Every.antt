-- `every n p` is true exactly when p is true of each state below n.
use mathlib.Core.Path.{◌≡◌, refl, ap₂}
use mathlib.Core.Bool.{Bool, true, false, ◌&&◌}
use Prim.Native.Nat.{ℕ, zero, suc, ◌<◌}
use native.Mathlib.Omega.{arith}
use Rattle.sets.specs.Sets.{every}

pub and_first : (a b : Bool) → (a && b) ≡ true → a ≡ true
and_first true b e = refl
and_first false b e = e

pub and_second : (a b : Bool) → (a && b) ≡ true → b ≡ true
and_second true b e = e
and_second false b e = absurd (let z : ◌≡◌ {A = ℕ} 0 1 = cc in omega arith)

pub and_both : (a b : Bool) → a ≡ true → b ≡ true → (a && b) ≡ true
and_both a b e h = ap₂ ◌&&◌ e h

pub every-at : (n : ℕ) (p : ℕ → Bool) → every n p ≡ true → (s : ℕ) → s < n → p s ≡ true
unfolding every
every-at zero p e s h = absurd (omega arith)
every-at (suc n) p e zero h = and_first (p 0) (every n (λ s. p (suc s))) e
every-at (suc n) p e (suc s) h = every-at n (λ s. p (suc s)) (and_second (p 0) (every n (λ s. p (suc s))) e) s (omega arith)

pub at_every : (n : ℕ) (p : ℕ → Bool) → ((s : ℕ) → s < n → p s ≡ true) → every n p ≡ true
unfolding every
at_every zero p h = refl
at_every (suc n) p h = and_both (p 0) (every n (λ s. p (suc s))) (h 0 (omega arith)) (at_every n (λ s. p (suc s)) (λ s q. h (suc s) (omega arith)))

pub every-same : (n : ℕ) (p q : ℕ → Bool) → ((s : ℕ) → s < n → p s ≡ q s) → every n p ≡ every n q
unfolding every
every-same zero p q h = refl
every-same (suc n) p q h = ap₂ ◌&&◌ (h 0 (omega arith)) (every-same n (λ s. p (suc s)) (λ s. q (suc s)) (λ s r. h (suc s) (omega arith)))
