-- What a bit leaves of two lists of requirements, and of the requirements of some states.
use mathlib.Core.Path.{◌≡◌, refl, sym, ap, ◌∙◌}
use mathlib.Core.Bool.{Bool, true, false, cond}
use mathlib.Core.List.{List, [], ◌∷◌, ◌++◌, map}
use Prim.Native.Nat.{ℕ, zero, suc, ◌+◌}
use native.Mathlib.Omega.{arith}
use Rattle.sets.specs.Sets.{has}
use Rattle.sets.proofs.Members.{has-lt}
use Rattle.rules.specs.Requirements.{met}
use Rattle.rules.specs.Code.{unmet_by}
use Rattle.rules.specs.declared.Requirement.{Requirement}
use Rattle.rules.proofs.Unmet.{left-met, left-unmet}
use Rattle.families.specs.Families.{inside}
use Rattle.families.proofs.Inside.{inside-in, inside-out}

pub unmet-append : (n b : ℕ) (rs qs : List Requirement) → unmet_by n b (rs ++ qs) ≡ unmet_by n b rs ++ unmet_by n b qs
unfolding unmet_by
unmet-append n b [] qs = refl
unmet-append n b (r ∷ rs) qs = go (met n r b) refl (unmet-append n b rs qs)
  where
    go : (t : Bool) → met n r b ≡ t → unmet_by n b (rs ++ qs) ≡ unmet_by n b rs ++ unmet_by n b qs → unmet_by n b (r ∷ (rs ++ qs)) ≡ unmet_by n b (r ∷ rs) ++ unmet_by n b qs
    go true e h = left-met n b r (rs ++ qs) e ∙ h ∙ sym (ap (λ (l : List Requirement). l ++ unmet_by n b qs) (left-met n b r rs e))
    go false e h = left-unmet n b r (rs ++ qs) e ∙ ap (λ (l : List Requirement). r ∷ l) h ∙ sym (ap (λ (l : List Requirement). l ++ unmet_by n b qs) (left-unmet n b r rs e))

-- of the requirements of some states, a bit leaves those of the states of another set
module _ (n b : ℕ) (g : ℕ → Requirement) (m left : ℕ)
    (gone : (t : ℕ) → has m t ≡ 0 → has left t ≡ 0)
    (each : (t : ℕ) → has m t ≡ 1 → cond (met n (g t) b) 1 0 + has left t ≡ 1) where
  pub unmet-inside : (ts : List ℕ) → unmet_by n b (map g (inside m ts)) ≡ map g (inside left ts)
  unfolding unmet_by inside
  unmet-inside [] = refl
  unmet-inside (t ∷ ts) = go (has m t) refl (met n (g t) b) refl (unmet-inside ts)
    where
      go : (d : ℕ) → has m t ≡ d → (u : Bool) → met n (g t) b ≡ u → unmet_by n b (map g (inside m ts)) ≡ map g (inside left ts)
          → unmet_by n b (map g (inside m (t ∷ ts))) ≡ map g (inside left (t ∷ ts))
      go zero e u f r =
          ap (λ (l : List ℕ). unmet_by n b (map g l)) (inside-out m t ts e) ∙ r ∙ sym (ap (map g) (inside-out left t ts (gone t e)))
      go (suc d) e true f r =
          let i : has m t ≡ 1 = omega (arith, has-lt m t) in
          let z : has left t ≡ 0 = met-none (each t i) f in
          ap (λ (l : List ℕ). unmet_by n b (map g l)) (inside-in m t ts i) ∙ left-met n b (g t) (map g (inside m ts)) f ∙ r ∙ sym (ap (map g) (inside-out left t ts z))
        where
          met-none : cond (met n (g t) b) 1 0 + has left t ≡ 1 → met n (g t) b ≡ true → has left t ≡ 0
          met-none p q = omega (arith, rw q at p)
      go (suc d) e false f r =
          let i : has m t ≡ 1 = omega (arith, has-lt m t) in
          let z : has left t ≡ 1 = unmet-one (each t i) f in
          ap (λ (l : List ℕ). unmet_by n b (map g l)) (inside-in m t ts i)
          ∙ left-unmet n b (g t) (map g (inside m ts)) f
          ∙ ap (λ (l : List Requirement). g t ∷ l) r
          ∙ sym (ap (map g) (inside-in left t ts z))
        where
          unmet-one : cond (met n (g t) b) 1 0 + has left t ≡ 1 → met n (g t) b ≡ false → has left t ≡ 1
          unmet-one p q = omega (arith, rw q at p)
