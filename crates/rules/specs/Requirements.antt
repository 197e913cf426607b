-- 01, "Requirements": which there are, in which order, what meeting one is (001, section II), and by which bit a code does.
use Rattle.rules.specs.declared.BitNumber.{BitNumber}
use Rattle.std.specs.Prelude.{Bool, true, false, ◌&&◌, ◌||◌, not, cond, List, [], ◌∷◌, ◌++◌, map, ℕ, zero, suc, ◌+◌, leb, ltb, eqb, Option, Some, None}
use Rattle.sets.specs.Sets.{has, only, size, every, states_from}
use Rattle.rules.specs.Listing.{rows_of, dichotomies_of}
use Rattle.rules.specs.declared.Requirement.{Requirement}
use Rattle.rules.specs.declared.Row.{Row}
use Rattle.rules.specs.declared.Listing.{Listing}

-- ---- which there are

abbrev pub asks : ℕ → ℕ → Requirement
asks first second = record { first = first; second = second }

-- pairs ({i},{j}), i < j, by i and then j
unfoldable pub pairs : List ℕ → List Requirement
pairs [] = []
pairs (i ∷ js) = map (λ j. asks (only i) (only j)) js ++ pairs js

-- of the states, those outside a group
unfoldable pub outside : ℕ → List ℕ → List ℕ
outside g [] = []
outside g (s ∷ ss) = let rest = outside g ss in elim (has g s) [ zero ↦ s ∷ rest | suc d ↦ rest ]

-- the group has stood in an earlier row
unfoldable pub stood : ℕ → List ℕ → Bool
stood g [] = false
stood g (h ∷ hs) = eqb g h || stood g hs

-- (group, {s}) for each state s outside, ascending
unfoldable pub group_asks : ℕ → ℕ → List Requirement
unfolding outside states_from
group_asks n g = map (λ s. asks g (only s)) (outside g (states_from 0 n))

-- for each row in order whose group has 2 to n - 1 states and hasn't stood in an earlier row
unfoldable pub groups : ℕ → List ℕ → List Row → List Requirement
unfolding group_asks stood size
groups n earlier [] = []
groups n earlier (r ∷ rs) =
    cond (leb 2 (size r.group) && ltb (size r.group) n && not (stood r.group earlier)) (group_asks n r.group) []
    ++ groups n (r.group ∷ earlier) rs

-- numbered from 0 in this order; those of pairs and groups come first
unfoldable pub pairs_and_groups : Listing → List Requirement
unfolding pairs groups states_from
pairs_and_groups t = pairs (states_from 0 t.head.states) ++ groups t.head.states [] (rows_of t)

unfoldable pub requirements : Listing → List Requirement
unfolding pairs_and_groups
requirements t = pairs_and_groups t ++ dichotomies_of t

-- ---- what meeting is

-- the bit b has the value v on the whole block
unfoldable pub wholly : ℕ → ℕ → ℕ → ℕ → Bool
unfolding every
wholly n b v block = every n (λ s. eqb (has block s) 0 || eqb (has b s) v)

-- a bit meets a requirement when it has one value on the whole first block and the other on the whole second
unfoldable pub met : ℕ → Requirement → ℕ → Bool
unfolding wholly
met n r b = (wholly n b 0 r.first && wholly n b 1 r.second) || (wholly n b 1 r.first && wholly n b 0 r.second)

-- 02, request 04: the judgement of a requirement against a code is the lowest bit that meets it, from 0, leftmost first, or that none does. The first of
-- these bits has the number k.
unfoldable pub judged_from : ℕ → ℕ → List ℕ → Requirement → Option BitNumber
unfolding met
judged_from k n [] r = None
judged_from k n (b ∷ bs) r = cond (met n r b) (Some (record { 0 = k })) (judged_from (suc k) n bs r)

unfoldable pub judgement : ℕ → List ℕ → Requirement → Option BitNumber
unfolding judged_from
judgement n bits r = judged_from 0 n bits r

unfoldable pub is_by : Option BitNumber → Bool
is_by (Some b) = true
is_by None = false

-- a code meets a requirement where some bit is judged to, so a code of no bits meets none
unfoldable pub met_by_code : ℕ → List ℕ → Requirement → Bool
unfolding judgement is_by
met_by_code n bits r = is_by (judgement n bits r)

-- how many of the requirements a bit meets
unfoldable pub met_count : ℕ → List Requirement → ℕ → ℕ
unfolding met
met_count n [] b = 0
met_count n (r ∷ rs) b = cond (met n r b) 1 0 + met_count n rs b
