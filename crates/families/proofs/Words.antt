-- A list of families by its words: a family's three words at a place, and families behind families.
use mathlib.Core.Path.{◌≡◌, refl, sym, ap, ◌∙◌}
use mathlib.Core.List.{List, [], ◌∷◌, ◌++◌, append_assoc}
use Prim.Native.Nat.{ℕ, suc, ◌+◌, ◌≤◌, ◌<◌}
use native.Mathlib.Omega.{arith}
use lib.ListN.{length, get_or, drop}
use lib.Seq.{drop-cons}
use Rattle.rules.specs.declared.Requirement.{Requirement}
use Rattle.families.specs.Families.{requirements_of, requirements_in}

-- the three words from i on
pub three : (fs : List ℕ) (i : ℕ) → i + 3 ≤ length fs → drop i fs ≡ get_or fs i 0 ∷ (get_or fs (i + 1) 0 ∷ (get_or fs (i + 2) 0 ∷ drop (i + 3) fs))
three fs i h =
    let e₁ : i + 1 ≡ suc i = omega arith in
    let e₂ : i + 2 ≡ suc (suc i) = omega arith in
    let e₃ : i + 3 ≡ suc (suc (suc i)) = omega arith in
    rw (e₁, e₂, e₃)
    (drop-cons fs i 0 (omega arith)
    ∙ ap (λ (l : List ℕ). get_or fs i 0 ∷ l) (drop-cons fs (suc i) 0 (omega arith) ∙ ap (λ (l : List ℕ). get_or fs (suc i) 0 ∷ l) (drop-cons fs (suc (suc i)) 0 (omega arith))))

pub in_step : (fs : List ℕ) (i : ℕ) → i + 3 ≤ length fs
    → requirements_in (drop i fs) ≡ requirements_of (get_or fs i 0) (get_or fs (i + 1) 0) (get_or fs (i + 2) 0) ++ requirements_in (drop (i + 3) fs)
unfolding requirements_in
in_step fs i h = ap requirements_in (three fs i h)

-- a rest of one or two words is nothing
pub in-short : (fs : List ℕ) → length fs < 3 → requirements_in fs ≡ []
unfolding requirements_in
in-short [] h = refl
in-short (a ∷ []) h = refl
in-short (a ∷ (b ∷ [])) h = refl
in-short (a ∷ (b ∷ (c ∷ fs))) h = absurd (omega arith)

-- whole families
pub data Threes : List ℕ → Type 0 where
  none : Threes []
  more : {a b c : ℕ} {fs : List ℕ} → Threes fs → Threes (a ∷ (b ∷ (c ∷ fs)))

pub threes-append : {fs gs : List ℕ} → Threes fs → Threes gs → Threes (fs ++ gs)
threes-append none u = u
threes-append (more t) u = more (threes-append t u)

-- others behind them
pub in-append : {fs : List ℕ} → Threes fs → (gs : List ℕ) → requirements_in (fs ++ gs) ≡ requirements_in fs ++ requirements_in gs
unfolding requirements_in
in-append none gs = refl
in-append (more {a} {b} {c} {fs} t) gs =
    ap (λ (l : List Requirement). requirements_of a b c ++ l) (in-append t gs) ∙ sym (append_assoc (requirements_of a b c) (requirements_in fs) (requirements_in gs))
