-- The two counts of 01's section "Looks", state by state, and what a flip does to them.
use mathlib.Core.Path.{◌≡◌, refl, sym, ap, ap₂, ◌∙◌, subst}
use mathlib.Core.Logic.{◌⊎◌, inl, inr, ⊎_elim}
use Prim.Native.Nat.{ℕ, zero, suc, ◌+◌, ◌-◌, ◌*◌, ◌≤◌, ◌<◌}
use native.Mathlib.Nat.{zero-mul, one-mul}
use native.Mathlib.Omega.{arith}
use native.Mathlib.Decide.{ℕ_discrete}
use Rattle.sets.specs.Sets.{has, flip, total}
use Rattle.sets.proofs.Members.{has-lt, has-flip, has-flip-other}
use Rattle.sets.proofs.Totals.{total-same, total-change}
use Rattle.rules.specs.Looks.{must_change}

-- 1 where state s must change for the block z to have value 0 and the block o to have value 1
abbrev pub cost : ℕ → ℕ → ℕ → ℕ → ℕ
cost z o b s = has z s * has b s + has o s * (1 - has b s)

pub change-total : (n z o b : ℕ) → must_change n z o b ≡ total n (cost z o b)
unfolding must_change
change-total n z o b = refl

-- no state stands in both blocks
abbrev pub Apart : ℕ → ℕ → Type 0
Apart z o = (t : ℕ) → has z t + has o t ≤ 1

pub apart-turned : (z o : ℕ) → Apart z o → Apart o z
apart-turned z o h t = omega (arith, h t)

-- the cost, by where s stands
pub cost-zeros : (z o b s : ℕ) → has z s ≡ 1 → has o s ≡ 0 → cost z o b s ≡ has b s
cost-zeros z o b s p q =
    ap₂ (λ (x y : ℕ). x * has b s + y * (1 - has b s)) p q ∙ ap₂ (λ (x y : ℕ). x + y) (one-mul (has b s)) (zero-mul (1 - has b s)) ∙ omega arith

pub cost-ones : (z o b s : ℕ) → has z s ≡ 0 → has o s ≡ 1 → cost z o b s ≡ 1 - has b s
cost-ones z o b s p q =
    ap₂ (λ (x y : ℕ). x * has b s + y * (1 - has b s)) p q ∙ ap₂ (λ (x y : ℕ). x + y) (zero-mul (has b s)) (one-mul (1 - has b s)) ∙ omega arith

pub cost-neither : (z o b s : ℕ) → has z s + has o s ≡ 0 → cost z o b s ≡ 0
cost-neither z o b s h =
    let p : has z s ≡ 0 = omega arith in
    let q : has o s ≡ 0 = omega arith in
    ap₂ (λ (x y : ℕ). x * has b s + y * (1 - has b s)) p q ∙ ap₂ (λ (x y : ℕ). x + y) (zero-mul (has b s)) (zero-mul (1 - has b s))

-- a member stands in one block
pub one_block : (x y : ℕ) → x + y ≡ 1 → ((x ≡ 1) × (y ≡ 0)) ⊎ ((x ≡ 0) × (y ≡ 1))
one_block zero y h = inr (refl, omega arith)
one_block (suc x) y h = inl (omega arith, omega arith)

module _ (z o b s : ℕ) (h : has z s + has o s ≡ 1) where
  -- it must change one way round or the other
  pub cost-turned : cost o z b s + cost z o b s ≡ 1
  cost-turned =
      ⊎_elim (λ e. omega (arith, cost-zeros z o b s e.0 e.1, cost-ones o z b s e.1 e.0, has-lt b s))
      (λ e. omega (arith, cost-ones z o b s e.0 e.1, cost-zeros o z b s e.1 e.0, has-lt b s))
      (one_block (has z s) (has o s) h)

  -- and when it is flipped, the other way round
  pub cost-flipped : cost z o (flip b s) s + cost z o b s ≡ 1
  cost-flipped =
      ⊎_elim (λ e. omega (arith, cost-zeros z o b s e.0 e.1, cost-zeros z o (flip b s) s e.0 e.1, has-lt b s, has-flip b s))
      (λ e. omega (arith, cost-ones z o b s e.0 e.1, cost-ones z o (flip b s) s e.0 e.1, has-lt b s, has-flip b s))
      (one_block (has z s) (has o s) h)

-- the cost of one state hangs on its own value alone
pub cost-same : (z o a b s : ℕ) → has a s ≡ has b s → cost z o a s ≡ cost z o b s
cost-same z o a b s e = ap (λ (d : ℕ). has z s * d + has o s * (1 - d)) e

pub cost-other : (z o b s t : ℕ) → (t ≡ s → ⊥) → cost z o (flip b s) t ≡ cost z o b t
cost-other z o b s t h = cost-same z o (flip b s) b t (has-flip-other b s t h)

-- ---- a flip of s

pub change-flip : (n z o b s : ℕ) → s < n → must_change n z o (flip b s) + cost z o b s ≡ must_change n z o b + cost z o (flip b s) s
unfolding must_change
change-flip n z o b s h = total-change n s (cost z o (flip b s)) (cost z o b) h (λ t _ d. cost-other z o b s t d)

-- bits that differ at most at s, where s is no member
pub change-out : (n z o a b s : ℕ) → has z s + has o s ≡ 0 → ((t : ℕ) → (t ≡ s → ⊥) → has a t ≡ has b t) → must_change n z o a ≡ must_change n z o b
unfolding must_change
change-out n z o a b s h e = total-same n (cost z o a) (cost z o b) (λ t _. at t (ℕ_discrete t s))
  where
    at : (t : ℕ) → Dec (t ≡ s) → cost z o a t ≡ cost z o b t
    at t (yes d) = subst (λ (u : ℕ). cost z o a u ≡ cost z o b u) (sym d) (cost-neither z o a s h ∙ sym (cost-neither z o b s h))
    at t (no d) = cost-same z o a b t (e t d)
