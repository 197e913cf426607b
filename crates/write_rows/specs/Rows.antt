-- All rows by their number, as they are taken from a listing's tables, and the dashes that a row keeps, as masks.
use Rattle.std.specs.Prelude.{cond, List, [], ◌∷◌, ℕ, ◌+◌, ◌-◌, min, ltb, slice_index_or}
use Rattle.std.specs.Int.Bits.{bit_and, bit_or, bit_xor}
use Rattle.rules.specs.Limits.{most_states, most_rows}
use Rattle.rules.specs.Listing.{no_pattern, no_row, state_row, meets}
use Rattle.rules.specs.declared.Head.{Head}
use Rattle.rules.specs.declared.Pattern.{Pattern}
use Rattle.rules.specs.declared.Row.{Row}
use Rattle.rules.specs.declared.Listing.{Listing}

-- how many rows there are in all, of so many of the listing: under `MO` each state adds one
unfoldable pub row_count : Head → ℕ → ℕ
row_count h rows = min rows most_rows + cond h.moore (min h.states most_states) 0

-- the state that adds row k, behind n others
unfoldable pub state_at : ℕ → ℕ → ℕ
state_at n k = cond (ltb k n) 0 (min (k - n) 63)

-- row k, given the one that stands there in the listing and what the state says that adds it
unfoldable pub row_at : ℕ → ℕ → Row → Pattern → Row
unfolding state_at
row_at n k r p = cond (ltb k n) r (state_row (state_at n k) p)

-- row k of all that a listing says, as it is taken from the tables; some row behind the last
unfoldable pub row_of : Listing → ℕ → Row
unfolding row_at state_at
row_of t k =
    let n = min t.rows most_rows in
    row_at n k (slice_index_or t.table (min k 127) no_row) (slice_index_or t.said (state_at n k) no_pattern)

-- outputs said 1, beside those of a mask: by each of some rows that meets the row r
unfoldable pub said_one : Row → ℕ → List Row → ℕ
unfolding meets
said_one r m [] = m
said_one r m (q ∷ qs) = said_one r (cond (meets r q) (bit_or m q.outputs.ones) m) qs

-- the row r of the rows rs with the dashes that it keeps: those where neither it nor a row that it meets says 1
unfoldable pub kept_row : List Row → Row → Row
unfolding said_one
kept_row rs r =
    record {
      input = r.input;
      group = r.group;
      next = r.next;
      outputs = record { ones = r.outputs.ones; dashes = bit_xor r.outputs.dashes (bit_and r.outputs.dashes (said_one r r.outputs.ones rs)) };
      line = r.line;
    }
