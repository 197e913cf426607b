-- The gain table over a list of requirements.
use Rattle.std.specs.Prelude.{cond, List, [], ◌∷◌, ℕ, ◌+◌}
use Rattle.rules.specs.declared.Requirement.{Requirement}
use Rattle.move_table.specs.Table.{shared, look_mask, stepped}

-- the table with what each of the requirements adds at the bit b
unfoldable pub filled : List Requirement → ℕ → List ℕ → List ℕ
filled [] b t = t
filled (r ∷ rs) b t = filled rs b (shared r.first r.second b t)

-- the table after the move of s from the bit b to the bit a
unfoldable pub moved : List Requirement → ℕ → ℕ → ℕ → List ℕ → List ℕ
unfolding stepped
moved [] b a s t = t
moved (r ∷ rs) b a s t = moved rs b a s (stepped r.first r.second b a s t)

-- how many of them the move looks at
unfoldable pub looked : List Requirement → ℕ → ℕ → ℕ → ℕ
unfolding look_mask
looked [] b a s = 0
looked (r ∷ rs) b a s = cond (look_mask r.first r.second b a s) 1 0 + looked rs b a s
