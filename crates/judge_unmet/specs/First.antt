-- The first of some numbers of requirements.
use Rattle.std.specs.Prelude.{List, [], ◌∷◌, ℕ, Option, Some, None}
use Rattle.rules.specs.declared.RequirementNumber.{RequirementNumber}

unfoldable pub first_of : List ℕ → Option RequirementNumber
first_of [] = None
first_of (r ∷ rs) = Some (record { 0 = r })
