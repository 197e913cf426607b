-- What columns meet, as masks: a digit for each requirement, the first of them at the highest.
use Rattle.std.specs.Prelude.{List, [], ◌∷◌, map, ℕ, ◌+◌, ◌*◌}
use Rattle.sets.specs.Sets.{states_from}
use Rattle.rules.specs.Text.{digit}
use Rattle.rules.specs.Requirements.{met}
use Rattle.rules.specs.Least.{turned, column}
use Rattle.rules.specs.declared.Requirement.{Requirement}

-- of the requirements those that the bit b meets, behind the digits of m; a set of states has 64 digits
unfoldable pub mask_from : ℕ → ℕ → List Requirement → ℕ
unfolding met
mask_from m b [] = m
mask_from m b (r ∷ rs) = mask_from (m * 2 + digit (met 64 r b)) b rs

-- of each of the first c columns
unfoldable pub masks : ℕ → List Requirement → ℕ → List ℕ
unfolding mask_from turned states_from
masks n rs c = map (λ v. mask_from 0 (column n v) rs) (states_from 0 c)
