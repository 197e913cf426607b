-- The move of a state for each family of a list in turn.
use Rattle.std.specs.Prelude.{ℕ, ◌+◌, ◌-◌, ◌*◌, ◌%◌, ◌^◌, List, [], ◌∷◌, slice_index, slice_set}
use Rattle.move_halves.specs.Halves.{swayed, looks_of}

-- the table after the move of s at the bit b, with the moved state's own change by half
unfoldable pub swayed_all : List ℕ → ℕ → ℕ → List ℕ → List ℕ
unfolding swayed
swayed_all [] b s t = t
swayed_all (all ∷ []) b s t = t
swayed_all (all ∷ (flip ∷ [])) b s t = t
swayed_all (all ∷ (flip ∷ (out ∷ fs))) b s t = swayed_all fs b s (swayed all flip out b s t)

-- its looks
unfoldable pub looks_all : List ℕ → ℕ → ℕ → ℕ
unfolding looks_of
looks_all [] b s = 0
looks_all (all ∷ []) b s = 0
looks_all (all ∷ (flip ∷ [])) b s = 0
looks_all (all ∷ (flip ∷ (out ∷ fs))) b s = looks_of all flip out b s + looks_all fs b s

-- the change of the moved state's own level from v made twice
abbrev pub doubled : ℕ → ℕ → List ℕ → List ℕ
doubled s v t = slice_set t s ((2 * slice_index t s + (2 ^ 32 - v)) % 2 ^ 32)
