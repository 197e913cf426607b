-- A search by inputs, from the leftmost on, 0 before 1, that keeps the rows that can still fire; where both halves keep the same rows, one is looked at.
use Rattle.std.specs.Prelude.{Bool, ◌&&◌, ◌||◌, not, cond, List, map, ℕ, zero, suc, ◌+◌, ◌*◌, ◌-◌, ◌/◌, ◌%◌, eqb, get_or, Option, Some, None}
use Rattle.std.specs.Int.Bits.{bit_and, bit_or, bit_xor}
use Rattle.sets.specs.Sets.{has, every, states_from}
use Rattle.judge_search.specs.Rows.{row_fires, words_of}
use Rattle.judge_search.specs.declared.Said.{Said}

-- ---- what rows say

-- some place is not as it is meant
unfoldable pub differ : ℕ → ℕ → ℕ → ℕ → Bool
unfolding every
differ on free ones dashes = not (every 64 (λ j. (eqb (has free j) 1 && eqb (has on j) 0) || (eqb (has ones j) (has on j) && eqb (has dashes j) 0)))

unfoldable pub differs : Said → Said → Bool
unfolding differ
differs l c = differ l.c l.d c.c c.d || (not (eqb l.a 0) && differ l.b 0 c.a c.b)

-- what is said with one row more
abbrev pub said_with : List ℕ → ℕ → Said → Said
said_with says r s = record {
  a = bit_or s.a (get_or says (r * 4) 0);
  b = bit_or s.b (get_or says (r * 4 + 1) 0);
  c = bit_or s.c (get_or says (r * 4 + 2) 0);
  d = bit_or s.d (get_or says (r * 4 + 3) 0);
}

-- with the rows of a set, of k rows from r on
unfoldable pub gathered_word : List ℕ → ℕ → ℕ → ℕ → Said → Said
gathered_word says r zero m s = s
gathered_word says r (suc k) m s = gathered_word says (suc r) k (m / 2) (cond (eqb (m % 2) 1) (said_with says r s) s)

abbrev pub unsaid : Said
unsaid = record { a = 0; b = 0; c = 0; d = 0 }

-- with those of k words from q on
unfoldable pub gathered_words : List ℕ → List ℕ → ℕ → ℕ → Said → Said
unfolding gathered_word
gathered_words says rows q zero s = s
gathered_words says rows q (suc k) s = gathered_words says rows (suc q) k (gathered_word says (q * 64) 64 (get_or rows q 0) s)

unfoldable pub gathered_from : List ℕ → List ℕ → ℕ → ℕ → Said
unfolding gathered_words
gathered_from says rows from to = gathered_words says rows from (to - from) unsaid

unfoldable pub fails_with : List ℕ → List ℕ → Bool
unfolding gathered_from differs
fails_with says rows = differs (gathered_from says rows 0 3) (gathered_from says rows 3 7)

-- with what the listing and the cover say already
unfoldable pub fails_over : Said → Said → List ℕ → List ℕ → Bool
unfolding gathered_words differs
fails_over l c says rows = differs (gathered_words says rows 0 3 l) (gathered_words says rows 3 4 c)

-- ---- sets of rows

unfoldable pub kept_words : List ℕ → List ℕ → ℕ → List ℕ
unfolding states_from
kept_words rows words at = map (λ q. bit_and (get_or rows q 0) (get_or words (at + q) 0)) (states_from 0 7)

-- of a set the rows that let both digits stand at k inputs, for each of which there are fourteen words, from a place on
unfoldable pub sure_words : List ℕ → List ℕ → ℕ → ℕ → List ℕ
unfolding kept_words
sure_words rows cols at zero = rows
sure_words rows cols at (suc k) = sure_words (kept_words (kept_words rows cols at) cols (at + 7)) cols (at + 14) k

-- a set with the rows of another turned over
unfoldable pub turned_words : List ℕ → List ℕ → List ℕ
unfolding states_from
turned_words rows others = map (λ q. bit_xor (get_or rows q 0) (get_or others q 0)) (states_from 0 7)

unfoldable pub same_words : List ℕ → List ℕ → Bool
unfolding every
same_words a b = every 7 (λ q. eqb (get_or a q 0) (get_or b q 0))

-- ---- the search

abbrev pub or_else : Option ℕ → Option ℕ → Option ℕ
or_else (Some v) other = Some v
or_else None other = other

-- Of the inputs that begin as the number v says, with k inputs more, the lowest that fails, with what the listing and the cover say already. For each input
-- more there are fourteen words, from a place on: the rows that let a 0 stand there, and those that let a 1.
unfoldable pub searched : Said → Said → List ℕ → List ℕ → ℕ → ℕ → ℕ → List ℕ → Option ℕ
unfolding fails_over kept_words same_words
searched l c says cols at zero v rows = cond (fails_over l c says rows) (Some v) None
searched l c says cols at (suc k) v rows =
    let low : List ℕ = kept_words rows cols at in
    let high : List ℕ = kept_words rows cols (at + 7) in
    or_else (searched l c says cols (at + 14) k (v * 2) low) (cond (same_words low high) None (searched l c says cols (at + 14) k (v * 2 + 1) high))

-- ---- what is searched for: at the state s and the inputs that v is as a number, what the rows say that fire
unfoldable pub fails_at : List ℕ → List ℕ → ℕ → ℕ → ℕ → Bool
unfolding fails_with words_of row_fires
fails_at fires says i s v = fails_with says (words_of (row_fires fires i s v))
