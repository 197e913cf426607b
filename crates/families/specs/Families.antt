-- A family: requirements that have all their members but one in common. Its numbers: the members that they have in common, those of them that stand in
-- the second block, and the states outside, each of which makes a requirement of its own; where there is none outside, the family is one requirement.
use Rattle.std.specs.Prelude.{cond, List, [], ◌∷◌, ◌++◌, map, ℕ, zero, suc, ◌+◌, eqb, slice_set}
use Rattle.std.specs.Int.Bits.{bit_and, bit_or, bit_xor}
use Rattle.sets.specs.Sets.{has, only, states_from}
use Rattle.rules.specs.Requirements.{asks}
use Rattle.rules.specs.declared.Requirement.{Requirement}

-- m without the members of x
abbrev pub without : ℕ → ℕ → ℕ
without m x = bit_xor m (bit_and m x)

-- of the states, the members of m
unfoldable pub inside : ℕ → List ℕ → List ℕ
inside m [] = []
inside m (s ∷ ss) = let rest = inside m ss in elim (has m s) [ zero ↦ rest | suc d ↦ s ∷ rest ]

-- the requirement of the members in common alone, and with the state t in the second block
abbrev pub single : ℕ → ℕ → Requirement
single all flip = asks (without all flip) (bit_and all flip)

abbrev pub joined : ℕ → ℕ → ℕ → Requirement
joined all flip t = asks (without all flip) (bit_or (bit_and all flip) (only t))

-- the requirements of a family, ascending by the state outside
unfoldable pub requirements_of : ℕ → ℕ → ℕ → List Requirement
unfolding inside states_from
requirements_of all flip out = cond (eqb out 0) (single all flip ∷ []) (map (joined all flip) (inside (without out all) (states_from 0 64)))

-- the requirements of a list of families, each of which stands in it as its three numbers, one after the other
unfoldable pub requirements_in : List ℕ → List Requirement
unfolding requirements_of
requirements_in [] = []
requirements_in (all ∷ []) = []
requirements_in (all ∷ (flip ∷ [])) = []
requirements_in (all ∷ (flip ∷ (out ∷ fs))) = requirements_of all flip out ++ requirements_in fs

-- a family's three numbers put into a list, from place i on
unfoldable pub laid : ℕ → ℕ → ℕ → ℕ → List ℕ → List ℕ
laid i all flip out fs = slice_set (slice_set (slice_set fs i all) (i + 1) flip) (i + 2) out
