-- How the entries of a flow table are kept: 1,024 places, column c in the 64 places from 64 × c on, state by state; dashes where no line was read.
use Rattle.std.specs.Prelude.{Bool, List, map, ℕ, zero, suc, ◌+◌, ◌*◌, get_or, take, drop, set, replicate}
use Rattle.sets.specs.Sets.{every, states_from}
use Rattle.rules.specs.Limits.{most_states}
use Rattle.rules.specs.Text.{field_at}
use Rattle.rules.specs.FlowTable.{no_state, is_stable}
use Rattle.rules.specs.FlowLines.{entry_of, is_entry, entry_at}

-- 64 places for each of 16 columns
abbrev pub most_places : ℕ
most_places = 1024

abbrev pub blank_table : List ℕ
blank_table = replicate most_places no_state

-- the columns of a table of n states
abbrev pub column_in : List ℕ → ℕ → ℕ → List ℕ
column_in table n c = take n (drop (c * most_states) table)

unfoldable pub columns_from : List ℕ → ℕ → ℕ → ℕ → List (List ℕ)
columns_from table n c k = map (column_in table n) (states_from c k)

abbrev pub columns_in : List ℕ → ℕ → ℕ → List (List ℕ)
columns_in table n k = columns_from table n 0 k

-- the entries of line l, that of state s, in k columns from c on
unfoldable pub store_from : ℕ → List ℕ → ℕ → ℕ → ℕ → List ℕ → List ℕ
store_from n l s c zero table = table
store_from n l s c (suc k) table = store_from n l s (c + 1) k (set table (c * most_states + s) (entry_at n c l))

-- each of so many columns has an entry
unfoldable pub all_entries : ℕ → ℕ → List ℕ → Bool
all_entries n columns l = every columns (λ c. is_entry (entry_of n (field_at l (c + 1))))

-- state s goes to a stable destination of this column, or to none
unfoldable pub goes_well_in : List ℕ → ℕ → Bool
goes_well_in column s = is_stable column (get_or column s no_state)
