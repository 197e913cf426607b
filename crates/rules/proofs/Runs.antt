-- Runs of moves in which no state moves twice.
use mathlib.Core.Path.{◌≡◌, refl, ap₂}
use mathlib.Core.List.{List, [], ◌∷◌}
use Prim.Native.Nat.{ℕ, ◌+◌, ◌≤◌, ◌<◌, zero-le}
use native.Mathlib.Omega.{arith}
use native.Mathlib.Decide.{ℕ_discrete}
use Rattle.sets.specs.Sets.{total}
use Rattle.sets.proofs.Totals.{total-change}

-- no state of the run is s
abbrev pub Fresh : ℕ → List ℕ → Type 0
Fresh s [] = Unit {0}
Fresh s (t ∷ ts) = (t ≡ s → ⊥) × Fresh s ts

-- no state stands twice
abbrev pub Once : List ℕ → Type 0
Once [] = Unit {0}
Once (s ∷ ss) = Fresh s ss × Once ss

-- each is one of the n states
abbrev pub Below : ℕ → List ℕ → Type 0
Below n [] = Unit {0}
Below n (s ∷ ss) = (s < n) × Below n ss

-- the sum of f over the run
unfoldable pub sum_over : (ℕ → ℕ) → List ℕ → ℕ
sum_over f [] = 0
sum_over f (s ∷ ss) = f s + sum_over f ss

pub sum-fresh : (f g : ℕ → ℕ) (s : ℕ) (ss : List ℕ) → Fresh s ss → ((t : ℕ) → (t ≡ s → ⊥) → f t ≡ g t) → sum_over f ss ≡ sum_over g ss
unfolding sum_over
sum-fresh f g s [] h e = refl
sum-fresh f g s (t ∷ ts) h e = ap₂ (λ (x y : ℕ). x + y) (e t h.0) (sum-fresh f g s ts h.1 e)

-- f with 0 at s
dropped : (s t : ℕ) → Dec (t ≡ s) → ℕ → ℕ
dropped s t (yes _) v = 0
dropped s t (no _) v = v

without : (ℕ → ℕ) → ℕ → ℕ → ℕ
without f s t = dropped s t (ℕ_discrete t s) (f t)

without_at : (f : ℕ → ℕ) (s : ℕ) → without f s s ≡ 0
unfolding without dropped
without_at f s = go (ℕ_discrete s s)
  where
    go : (d : Dec (s ≡ s)) → dropped s s d (f s) ≡ 0
    go (yes e) = refl
    go (no e) = absurd (e refl)

without_other : (f : ℕ → ℕ) (s t : ℕ) → (t ≡ s → ⊥) → without f s t ≡ f t
unfolding without dropped
without_other f s t h = go (ℕ_discrete t s)
  where
    go : (d : Dec (t ≡ s)) → dropped s t d (f t) ≡ f t
    go (yes e) = absurd (h e)
    go (no e) = refl

-- a run's sum is at most the sum over all states
pub sum-le : (n : ℕ) (f : ℕ → ℕ) (ss : List ℕ) → Once ss → Below n ss → sum_over f ss ≤ total n f
unfolding sum_over
sum-le n f [] o l = zero-le
sum-le n f (s ∷ ss) o l =
    let i : sum_over (without f s) ss ≤ total n (without f s) = sum-le n (without f s) ss o.1 l.1 in
    let e : sum_over (without f s) ss ≡ sum_over f ss = sum-fresh (without f s) f s ss o.0 (without_other f s) in
    let c : total n (without f s) + f s ≡ total n f + without f s s = total-change n s (without f s) f l.0 (λ t _ h. without_other f s t h) in
    let z : without f s s ≡ 0 = without_at f s in
    omega arith
