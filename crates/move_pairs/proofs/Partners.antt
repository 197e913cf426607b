-- The live pairs by a table of partners: the pair of i and j is live where j is a partner of i.
use mathlib.Core.Path.{◌≡◌}
use mathlib.Core.List.{List, [], ◌∷◌, ◌++◌, map}
use Prim.Native.Nat.{ℕ, suc, ◌^◌, ◌<◌}
use lib.ListN.{get_or}
use Rattle.sets.specs.Sets.{has, only, states_from}
use Rattle.rules.specs.Requirements.{asks}
use Rattle.rules.specs.declared.Requirement.{Requirement}
use Rattle.families.specs.Families.{inside}
use Rattle.move_pairs.specs.Pairs.{like_of}

-- of the pairs of a list of states, those that are live: in the order of `rules`
unfoldable pub pairs_among : List ℕ → List ℕ → List Requirement
unfolding inside
pairs_among ps [] = []
pairs_among ps (i ∷ js) = map (λ j. asks (only i) (only j)) (inside (get_or ps i 0) js) ++ pairs_among ps js

unfoldable pub pairs_of : List ℕ → List Requirement
unfolding pairs_among states_from
pairs_of ps = pairs_among ps (states_from 0 64)

-- a table of partners: j is one of i where i is one of j, and nobody is its own
pub record Partners (ps : List ℕ) : Type 0 where
  pub back : (i j : ℕ) → has (get_or ps i 0) j ≡ has (get_or ps j 0) i
  pub others : (i : ℕ) → has (get_or ps i 0) i ≡ 0
  pub words : (i : ℕ) → get_or ps i 0 < 2 ^ 64

-- the table from state i on, each with those that have its value at the bit b
unfoldable pub kept_from : ℕ → ℕ → List ℕ → List ℕ
kept_from b i [] = []
kept_from b i (p ∷ ps) = like_of p b i ∷ kept_from b (suc i) ps
