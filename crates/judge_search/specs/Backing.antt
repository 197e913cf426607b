-- A listing and a cover that are alike row by row: what a row of the one says, a row of the other says too, which fires wherever the first does.
use Rattle.std.specs.Prelude.{Bool, ◌&&◌, ◌||◌, not, List, ℕ, ◌+◌, ◌*◌, ◌-◌, eqb, get_or}
use Rattle.std.specs.Int.Bits.{bit_and}
use Rattle.sets.specs.Sets.{has, every}
use Rattle.judge_search.specs.Rows.{listing_rows, all_row_places, any_from}
use Rattle.judge_search.specs.declared.backing.Sayings.{Sayings}

-- all members of a set are members of another
unfoldable pub within : ℕ → ℕ → Bool
within a b = eqb (bit_and a b) a

-- ---- one row that says what another says

-- row y lets the same inputs stand as row x, in all its states, and says in its number g all that x says in its number f
unfoldable pub backed_by : List ℕ → List ℕ → ℕ → ℕ → ℕ → ℕ → Bool
unfolding within
backed_by fires says f g x y =
    eqb (get_or fires (x * 3) 0) (get_or fires (y * 3) 0)
    && (eqb (get_or fires (x * 3 + 1) 0) (get_or fires (y * 3 + 1) 0)
    && (within (get_or fires (x * 3 + 2) 0) (get_or fires (y * 3 + 2) 0) && within (get_or says (x * 4 + f) 0) (get_or says (y * 4 + g) 0)))

-- a number of the listing's rows, of the cover's, and of none
abbrev pub of_listing : ℕ → Sayings
of_listing f = record { number = f; from = 0; to = listing_rows }

abbrev pub of_cover : ℕ → Sayings
of_cover f = record { number = f; from = listing_rows; to = all_row_places }

abbrev pub no_sayings : Sayings
no_sayings = record { number = 0; from = 0; to = 0 }

-- one of some rows does so
unfoldable pub backed : List ℕ → List ℕ → ℕ → Sayings → ℕ → Bool
unfolding any_from backed_by
backed fires says f by x = any_from (backed_by fires says f by.number x) by.from (by.to - by.from)

-- row x fires somewhere, and says what none of them says
unfoldable pub unbacked : List ℕ → List ℕ → ℕ → Sayings → ℕ → Bool
unfolding backed
unbacked fires says f by x = not (eqb (get_or fires (x * 3 + 2) 0) 0) && (not (eqb (get_or says (x * 4 + f) 0) 0) && not (backed fires says f by x))

unfoldable pub any_unbacked : List ℕ → List ℕ → Sayings → Sayings → Bool
unfolding any_from unbacked
any_unbacked fires says these by = any_from (unbacked fires says these.number by) these.from (these.to - these.from)

-- ---- a dash where another row says 1

-- two rows let some input stand both: those that are 1 in the one and in the other, and the dashes of both
unfoldable pub share_inputs : ℕ → ℕ → ℕ → ℕ → ℕ → Bool
unfolding every
share_inputs i o p d e = every i (λ j. eqb (has d j) 1 || (eqb (has e j) 1 || eqb (has o j) (has p j)))

-- row x says a dash of an output of which row y says 1, and the two can fire together
unfoldable pub clash : List ℕ → List ℕ → ℕ → ℕ → ℕ → Bool
unfolding share_inputs
clash fires says i x y =
    not (eqb (bit_and (get_or says (x * 4 + 3) 0) (get_or says (y * 4 + 2) 0)) 0)
    && (not (eqb (bit_and (get_or fires (x * 3 + 2) 0) (get_or fires (y * 3 + 2) 0)) 0)
    && share_inputs i (get_or fires (x * 3) 0) (get_or fires (y * 3) 0) (get_or fires (x * 3 + 1) 0) (get_or fires (y * 3 + 1) 0))

-- for a row of the listing
unfoldable pub clashes : List ℕ → List ℕ → ℕ → ℕ → Bool
unfolding any_from clash
clashes fires says i x = any_from (clash fires says i x) 0 listing_rows

-- and one of the cover
unfoldable pub any_clash : List ℕ → List ℕ → ℕ → Bool
unfolding any_from clashes
any_clash fires says i = any_from (clashes fires says i) listing_rows (all_row_places - listing_rows)

-- ---- all rows

-- the cover's outputs that are 1, those that are dashes, its next codes, and no dash in them; the listing's outputs that are 1, and its next codes
unfoldable pub row_by_row : List ℕ → List ℕ → ℕ → Bool
row_by_row fires says i =
    not (any_unbacked fires says (of_cover 2) (of_listing 2))
    && (not (any_unbacked fires says (of_cover 3) (of_listing 3))
    && (not (any_unbacked fires says (of_cover 0) (of_listing 1))
    && (not (any_unbacked fires says (of_cover 1) no_sayings)
    && (not (any_unbacked fires says (of_listing 2) (of_cover 2)) && (not (any_unbacked fires says (of_listing 1) (of_cover 0)) && not (any_clash fires says i))))))
