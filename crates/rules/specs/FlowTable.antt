-- 02, request 05, and 001, section VI.A: what a flow table says. A column is its entries, state by state from 0: the next state's number, or a dash.
use Rattle.std.specs.Prelude.{Bool, true, false, ◌&&◌, ◌||◌, not, List, [], ◌∷◌, ◌++◌, map, ℕ, ◌+◌, get_or, ltb, eqb, Ok}
use Rattle.std.specs.Int.Bits.{bit_or}
use Rattle.sets.specs.Sets.{has, only}
use Rattle.rules.specs.Limits.{most_states}
use Rattle.rules.specs.Text.{set_of}
use Rattle.rules.specs.declared.Requirement.{Requirement}
use Rattle.rules.specs.declared.Refusal.TheVariants.{Unstable}
use Rattle.rules.specs.Refusals.{Verdict, refused}

-- a dash: no state has this number
abbrev pub no_state : ℕ
no_state = most_states

-- an entry names a state: it is no dash
abbrev pub is_state : ℕ → Bool
is_state d = ltb d no_state

-- ---- destinations, sets, pairs

-- the destinations of these entries, behind those met already, in the order of the first states that go to them
unfoldable pub destinations_from : ℕ → List ℕ → List ℕ
destinations_from met [] = []
destinations_from met (d ∷ ds) =
    elim (is_state d && eqb (has met d) 0) [
      | true ↦ d ∷ destinations_from (bit_or met (only d)) ds
      | false ↦ destinations_from met ds
    ]

-- each destination forms a set with all states that go to it; so the sets stand by their lowest members. A dash is in no set.
unfoldable pub sets_of : List ℕ → List ℕ
unfolding set_of destinations_from
sets_of column = map (λ d. set_of d column) (destinations_from 0 column)

-- each two sets give one dichotomy: pairs by the first and then the second, the first set `+`, the other `-`
unfoldable pub set_pairs : List ℕ → List Requirement
set_pairs [] = []
set_pairs (a ∷ bs) = map (λ b. record { first = a; second = b }) bs ++ set_pairs bs

-- columns left to right
unfoldable pub flow_asks : List (List ℕ) → List Requirement
unfolding set_pairs sets_of
flow_asks [] = []
flow_asks (column ∷ columns) = set_pairs (sets_of column) ++ flow_asks columns

-- ---- destinations that are stable

-- a destination is stable in its column where it goes to itself; a dash is no destination
unfoldable pub is_stable : List ℕ → ℕ → Bool
is_stable column d = not (is_state d) || eqb (get_or column d no_state) d

-- state s goes to a stable destination, or to none, in each column
unfoldable pub goes_well : List (List ℕ) → ℕ → Bool
unfolding is_stable
goes_well [] s = true
goes_well (column ∷ columns) s = is_stable column (get_or column s no_state) && goes_well columns s

-- the first of the states that does not: 13 at its line, which for state 0 is line 2
unfoldable pub stability : List (List ℕ) → List ℕ → Verdict
unfolding goes_well
stability columns [] = Ok tt
stability columns (s ∷ ss) = elim (goes_well columns s) [ true ↦ stability columns ss | false ↦ refused Unstable (s + 2) ]
