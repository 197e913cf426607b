-- The families of a list that a move can touch, as digits of a number, and the moves of those alone whose digit is 1.
use Rattle.std.specs.Prelude.{ℕ, zero, suc, ◌+◌, ◌*◌, Bool, cond, List, ◌==◌, slice_index}
use Rattle.sets.specs.Sets.{has}
use Rattle.move_halves.specs.Halves.{near_at, swayed, looks_of}

-- family k of a list
abbrev pub near_of : List ℕ → ℕ → ℕ → ℕ → Bool
near_of fs b s k = near_at (slice_index fs (3 * k)) (slice_index fs (3 * k + 1)) (slice_index fs (3 * k + 2)) b s

abbrev pub swayed_of : List ℕ → ℕ → ℕ → ℕ → List ℕ → List ℕ
swayed_of fs b s k t = swayed (slice_index fs (3 * k)) (slice_index fs (3 * k + 1)) (slice_index fs (3 * k + 2)) b s t

abbrev pub looks_at : List ℕ → ℕ → ℕ → ℕ → ℕ
looks_at fs b s k = looks_of (slice_index fs (3 * k)) (slice_index fs (3 * k + 1)) (slice_index fs (3 * k + 2)) b s

-- the marks of c families from family k on, the first of them the lowest digit
unfoldable pub marks_from : ℕ → ℕ → List ℕ → ℕ → ℕ → ℕ
unfolding near_at
marks_from zero k fs b s = 0
marks_from (suc c) k fs b s = cond (near_of fs b s k) 1 0 + 2 * marks_from c (suc k) fs b s

-- the moves of those of c families from family k on whose digits in m are 1: the table after them, and their looks
unfoldable pub visited_from : ℕ → ℕ → ℕ → List ℕ → ℕ → ℕ → List ℕ → List ℕ
unfolding swayed
visited_from zero k m fs b s t = t
visited_from (suc c) k m fs b s t = visited_from c (suc k) m fs b s (cond (has m k == 1) (swayed_of fs b s k t) t)

unfoldable pub looks_from : ℕ → ℕ → ℕ → List ℕ → ℕ → ℕ → ℕ
unfolding looks_of
looks_from zero k m fs b s = 0
looks_from (suc c) k m fs b s = cond (has m k == 1) (looks_at fs b s k) 0 + looks_from c (suc k) m fs b s
