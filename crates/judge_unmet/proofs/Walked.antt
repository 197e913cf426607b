-- The first of some requirements that no bit meets, by its place among them.
use Rattle.std.specs.Prelude.{Option, Some, None}
use Rattle.std.specs.List.{position_from}
use mathlib.Core.Path.{◌≡◌, refl, sym, ap, ◌∙◌}
use mathlib.Core.Bool.{Bool, true, false, not, cond}
use mathlib.Core.List.{List, [], ◌∷◌}
use Prim.Native.Nat.{ℕ, ◌+◌}
use native.Mathlib.Numerals.{add-one}
use Rattle.rules.specs.Requirements.{met_by_code}
use Rattle.rules.specs.Code.{unmet_from}
use Rattle.rules.specs.declared.Requirement.{Requirement}
use Rattle.rules.specs.declared.RequirementNumber.{RequirementNumber}
use Rattle.rules.proofs.Unmet.{listed-met, listed-unmet}
use Rattle.judge_unmet.specs.First.{first_of}

-- a place as the requirement's number
abbrev pub numbered : Option ℕ → Option RequirementNumber
numbered None = None
numbered (Some k) = Some (record { 0 = k })

abbrev pub is_unmet : List ℕ → Requirement → Bool
is_unmet bits r = not (met_by_code 64 bits r)

pub first-from : (bits : List ℕ) (k : ℕ) (rs : List Requirement) → numbered (position_from (is_unmet bits) k rs) ≡ first_of (unmet_from k 64 bits rs)
unfolding first_of unmet_from
first-from bits k [] = refl
first-from bits k (r ∷ rs) = go (met_by_code 64 bits r) refl (first-from bits (k + 1) rs)
  where
    go : (t : Bool) → met_by_code 64 bits r ≡ t → numbered (position_from (is_unmet bits) (k + 1) rs) ≡ first_of (unmet_from (k + 1) 64 bits rs)
        → numbered (position_from (is_unmet bits) k (r ∷ rs)) ≡ first_of (unmet_from k 64 bits (r ∷ rs))
    go true e q =
        ap (λ (t : Bool). numbered (cond (not t) (Some k) (position_from (is_unmet bits) (k + 1) rs))) e
        ∙ q
        ∙ ap (λ (j : ℕ). first_of (unmet_from j 64 bits rs)) (add-one k)
        ∙ sym (ap first_of (listed-met k 64 bits r rs e))
    go false e q =
        ap (λ (t : Bool). numbered (cond (not t) (Some k) (position_from (is_unmet bits) (k + 1) rs))) e ∙ sym (ap first_of (listed-unmet k 64 bits r rs e))
