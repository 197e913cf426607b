-- The families of a listing, each as its three numbers: those of the pairs, of the groups that ask, and of the dichotomies.
use Rattle.std.specs.Prelude.{◌≡◌, Bool, false, ◌&&◌, ◌||◌, not, cond, List, [], ◌∷◌, ◌++◌, ℕ, zero, suc, ◌-◌, min, leb, ltb, eqb, length, drop}
use Rattle.std.specs.Int.Bits.{bit_or}
use Rattle.sets.specs.Sets.{only, everyone, size}
use Rattle.rules.specs.Limits.{most_states}
use Rattle.rules.specs.Listing.{rows_of, dichotomies_of}
use Rattle.rules.specs.declared.Row.{Row}
use Rattle.rules.specs.declared.Requirement.{Requirement}
use Rattle.rules.specs.declared.Listing.{Listing}
use Rattle.families.specs.Families.{without}

abbrev pub family : ℕ → ℕ → ℕ → List ℕ
family all flip out = all ∷ (flip ∷ (out ∷ []))

-- one of the families has g for its members in common
unfoldable pub stands_in : ℕ → List ℕ → Bool
stands_in g [] = false
stands_in g (all ∷ []) = false
stands_in g (all ∷ (flip ∷ [])) = false
stands_in g (all ∷ (flip ∷ (out ∷ fs))) = eqb g all || stands_in g fs

-- behind the families fs that of the group g, with the states outside it below n, if it has 2 to n - 1 states and does not stand there yet
unfoldable pub with_group : ℕ → List ℕ → ℕ → List ℕ
unfolding stands_in size
with_group n fs g = cond (leb 2 (size g) && ltb (size g) n && not (stands_in g fs)) (fs ++ family g 0 (without (everyone (min n 64)) g)) fs

-- and so for each row in order
unfoldable pub with_groups : ℕ → List ℕ → List Row → List ℕ
unfolding with_group
with_groups n fs [] = fs
with_groups n fs (r ∷ rs) = with_groups n (with_group n fs r.group) rs

unfoldable pub dichotomy_words : List Requirement → List ℕ
dichotomy_words [] = []
dichotomy_words (d ∷ ds) = bit_or d.first d.second ∷ (d.second ∷ (0 ∷ dichotomy_words ds))

-- k states from i on, each with the states behind it, below n
unfoldable pub pair_words : ℕ → ℕ → ℕ → List ℕ
pair_words n i zero = []
pair_words n i (suc k) = only i ∷ (0 ∷ (without (everyone n) (everyone (suc i)) ∷ pair_words n (suc i) k))

-- behind the last state there is none
abbrev pub pairs_of : ℕ → List ℕ
pairs_of n = pair_words n 0 (n - 1)

-- ---- of a listing

unfoldable pub group_families : Listing → List ℕ
unfolding with_groups
group_families t = with_groups t.head.states [] (rows_of t)

unfoldable pub families_of : Listing → List ℕ
unfolding group_families dichotomy_words
families_of t = group_families t ++ dichotomy_words (dichotomies_of t)

-- pairs and groups; a listing within the limits has no more states than they allow
unfoldable pub first_families : Listing → List ℕ
unfolding with_groups pair_words
first_families t = with_groups t.head.states (pairs_of (min t.head.states most_states)) (rows_of t)

unfoldable pub all_families : Listing → List ℕ
unfolding first_families dichotomy_words
all_families t = first_families t ++ dichotomy_words (dichotomies_of t)

-- ---- the array that they are drawn into

-- k words stand in its first places, and behind them it is as it came
pub record Drew (came words : List ℕ) (k : ℕ) (is : List ℕ) : Type 0 where
  pub count : k ≡ length words
  pub holds : is ≡ words ++ drop k came
