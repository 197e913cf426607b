-- A bit has one value on a whole block exactly when every member has it, and a bit that meets a requirement parts its two blocks.
use mathlib.Core.Path.{◌≡◌, sym, ◌∙◌}
use mathlib.Core.Logic.{◌⊎◌, inl, inr, ⊎_elim}
use mathlib.Core.Bool.{true, ◌&&◌, ◌||◌, false≢true}
use mathlib.Core.List.{List, [], ◌∷◌}
use Prim.Native.Nat.{ℕ, suc, ◌<◌}
use native.Mathlib.Omega.{arith}
use lib.Dec.{eqb}
use lib.ListN.{length, get_or}
use borrow.Author.Tests.{eqb-true, eq-eqb}
use Rattle.sets.specs.Sets.{has}
use Rattle.sets.proofs.Every.{and_first, and_second, every-at, at_every}
use Rattle.rules.specs.Requirements.{wholly, met, met_by_code}
use Rattle.rules.specs.declared.Requirement.{Requirement}
use Rattle.sets.proofs.SizeMembers.{outside-or-member}
use Rattle.rules.proofs.Or.{or-first, or-second, or_cases}
use Rattle.rules.proofs.Judged.{met-by-nil, met-by-cons}

-- the bit b has the value v on every member of the block
abbrev pub On : ℕ → ℕ → ℕ → ℕ → Type 0
On n b v block = (s : ℕ) → s < n → has block s ≡ 1 → has b s ≡ v

pub wholly-on : (n b v block : ℕ) → wholly n b v block ≡ true → On n b v block
unfolding wholly
wholly-on n b v block e s h q =
    ⊎_elim
    (λ z. absurd (omega (arith, eqb-true (has block s) 0 z)))
    (eqb-true (has b s) v)
    (or_cases (eqb (has block s) 0) (eqb (has b s) v) (every-at n (λ s. eqb (has block s) 0 || eqb (has b s) v) e s h))

pub on-wholly : (n b v block : ℕ) → On n b v block → wholly n b v block ≡ true
unfolding wholly
on-wholly n b v block f = at_every n (λ s. eqb (has block s) 0 || eqb (has b s) v) each
  where
    each : (s : ℕ) → s < n → (eqb (has block s) 0 || eqb (has b s) v) ≡ true
    each s h =
        ⊎_elim
        (λ e. or-first (eqb (has block s) 0) (eqb (has b s) v) (eq-eqb (has block s) 0 e))
        (λ e. or-second (eqb (has block s) 0) (eqb (has b s) v) (eq-eqb (has b s) v (f s h e)))
        (outside-or-member block s)

-- one value on the whole first block and the other on the whole second
abbrev pub Parts : ℕ → Requirement → ℕ → Type 0
Parts n r b = (On n b 0 r.first × On n b 1 r.second) ⊎ (On n b 1 r.first × On n b 0 r.second)

pub met-parts : (n : ℕ) (r : Requirement) (b : ℕ) → met n r b ≡ true → Parts n r b
unfolding met
met-parts n r b e =
    let f₀ = wholly n b 0 r.first in
    let f₁ = wholly n b 1 r.first in
    let s₀ = wholly n b 0 r.second in
    let s₁ = wholly n b 1 r.second in
    ⊎_elim
    (λ h. inl (wholly-on n b 0 r.first (and_first f₀ s₁ h), wholly-on n b 1 r.second (and_second f₀ s₁ h)))
    (λ h. inr (wholly-on n b 1 r.first (and_first f₁ s₀ h), wholly-on n b 0 r.second (and_second f₁ s₀ h)))
    (or_cases (f₀ && s₁) (f₁ && s₀) e)

-- the code meets a requirement by one of its bits
pub met_by : (n : ℕ) (bits : List ℕ) (r : Requirement) → met_by_code n bits r ≡ true → (j : ℕ) × (j < length bits) × Parts n r (get_or bits j 0)
met_by n [] r e = absurd (false≢true (sym (met-by-nil n r) ∙ e))
met_by n (b ∷ bs) r e =
    ⊎_elim
    (λ h. (0, omega arith, met-parts n r b h))
    (λ h. let m = met_by n bs r h in (suc m.0, omega (arith, m.1), m.2))
    (or_cases (met n r b) (met_by_code n bs r) (sym (met-by-cons n b bs r) ∙ e))
