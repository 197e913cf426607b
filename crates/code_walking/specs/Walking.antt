-- A walk over the requirements of some families: where it enters, what stands where it is, the place behind it, and what is still to come.
use Rattle.std.specs.Prelude.{not, ◌&&◌, cond, List, [], ◌∷◌, ◌++◌, map, ℕ, ◌+◌, ltb, eqb, length, get_or, drop}
use Rattle.std.specs.Int.Count.{count_trailing_zeros}
use Rattle.sets.specs.Sets.{states_from, without_lowest}
use Rattle.rules.specs.Listing.{no_requirement}
use Rattle.rules.specs.declared.Requirement.{Requirement}
use Rattle.families.specs.Families.{without, inside, single, joined, requirements_in}
use Rattle.code_walking.specs.declared.Walk.{Walk}
use Rattle.code_walking.specs.declared.Requirements.{Requirements}

-- at the first family of these words that has a requirement; the first word has the place i
unfoldable pub entered_in : ℕ → List ℕ → Walk
entered_in i [] = record { at = i; rest = 0 }
entered_in i (all ∷ []) = record { at = i; rest = 0 }
entered_in i (all ∷ (flip ∷ [])) = record { at = i; rest = 0 }
entered_in i (all ∷ (flip ∷ (out ∷ fs))) =
    cond (eqb (without out all) 0 && not (eqb out 0)) (entered_in (i + 3) fs) (record { at = i; rest = without out all })

unfoldable pub entered : List ℕ → ℕ → Walk
unfolding entered_in
entered fs from = entered_in from (drop from fs)

-- the requirements of the walk's family that are still to come
unfoldable pub of_family : List ℕ → Walk → List Requirement
unfolding inside states_from
of_family fs w =
    let all : ℕ = get_or fs w.at 0 in
    let flip : ℕ = get_or fs (w.at + 1) 0 in
    cond (eqb w.rest 0) (single all flip ∷ []) (map (joined all flip) (inside w.rest (states_from 0 64)))

-- all that are still to come
unfoldable pub ahead : List ℕ → Walk → List Requirement
unfolding of_family requirements_in
ahead fs w = cond (ltb (length fs) (w.at + 3)) [] (of_family fs w ++ requirements_in (drop (w.at + 3) fs))

-- the first of them
unfoldable pub here : List ℕ → Walk → Requirement
here fs w =
    let all : ℕ = get_or fs w.at 0 in
    let flip : ℕ = get_or fs (w.at + 1) 0 in
    cond (ltb (length fs) (w.at + 3)) no_requirement (cond (eqb w.rest 0) (single all flip) (joined all flip (count_trailing_zeros 64 w.rest)))

-- and behind it
unfoldable pub next : List ℕ → Walk → Walk
unfolding entered
next fs w =
    let rest : ℕ = without_lowest w.rest in
    cond (ltb (length fs) (w.at + 3)) w (cond (eqb rest 0) (entered fs (w.at + 3)) (record { at = w.at; rest = rest }))

-- what an iterator over the requirements has still to yield
unfoldable pub left : Requirements → List Requirement
unfolding ahead
left s = ahead s.families.now s.walk
