-- The members of a set among the states of a list.
use mathlib.Core.Path.{◌≡◌, refl, sym, ap, ◌∙◌}
use mathlib.Core.List.{List, [], ◌∷◌}
use Prim.Native.Nat.{ℕ, zero, suc}
use native.Mathlib.Omega.{arith}
use Rattle.sets.specs.Sets.{has}
use Rattle.sets.proofs.Members.{has-lt}
use Rattle.families.specs.Families.{inside}

pub inside-in : (m t : ℕ) (ts : List ℕ) → has m t ≡ 1 → inside m (t ∷ ts) ≡ t ∷ inside m ts
unfolding inside
inside-in m t ts e = rw (inside, e)

pub inside-out : (m t : ℕ) (ts : List ℕ) → has m t ≡ 0 → inside m (t ∷ ts) ≡ inside m ts
unfolding inside
inside-out m t ts e = rw (inside, e)

pub inside-same : (m m' : ℕ) → ((t : ℕ) → has m t ≡ has m' t) → (ts : List ℕ) → inside m ts ≡ inside m' ts
unfolding inside
inside-same m m' h [] = refl
inside-same m m' h (t ∷ ts) = go (has m t) refl (inside-same m m' h ts)
  where
    go : (d : ℕ) → has m t ≡ d → inside m ts ≡ inside m' ts → inside m (t ∷ ts) ≡ inside m' (t ∷ ts)
    go zero e r = inside-out m t ts e ∙ r ∙ sym (inside-out m' t ts (sym (h t) ∙ e))
    go (suc d) e r =
        let i : has m t ≡ 1 = omega (arith, has-lt m t) in
        inside-in m t ts i ∙ ap (λ (l : List ℕ). t ∷ l) r ∙ sym (inside-in m' t ts (sym (h t) ∙ i))

pub inside-none : (m : ℕ) → ((t : ℕ) → has m t ≡ 0) → (ts : List ℕ) → inside m ts ≡ []
unfolding inside
inside-none m h [] = refl
inside-none m h (t ∷ ts) = inside-out m t ts (h t) ∙ inside-none m h ts
