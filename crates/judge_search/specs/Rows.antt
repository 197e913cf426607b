-- When a row fires: three numbers for each, the inputs that are 1 and those that are dashes, and the set of the states. The input 0 is the leftmost.
use Rattle.std.specs.Prelude.{Bool, true, false, ◌&&◌, ◌||◌, List, map, ℕ, zero, suc, ◌+◌, ◌*◌, ◌/◌, ◌%◌, eqb, get_or}
use Rattle.sets.specs.Sets.{has, states_from}
use Rattle.rules.specs.Text.{digit}
use Rattle.judge_search.specs.declared.Firing.{Firing}

-- the rows that there can be: of a listing, and with those of a cover behind them
abbrev pub listing_rows : ℕ
listing_rows = 192

abbrev pub all_row_places : ℕ
all_row_places = 448

-- the words of the tables: three for each row of where it fires, four of what it says, and fourteen columns for each input
abbrev pub fires_words : ℕ
fires_words = 1344

abbrev pub says_words : ℕ
says_words = 1792

abbrev pub column_words : ℕ
column_words = 224

-- where a row fires
abbrev pub firing_at : List ℕ → ℕ → Firing
firing_at fires r = record { ones = get_or fires (r * 3) 0; dashes = get_or fires (r * 3 + 1) 0; states = get_or fires (r * 3 + 2) 0 }

-- a row lets the digit d stand at the input j
unfoldable pub lets : List ℕ → ℕ → ℕ → ℕ → Bool
lets fires j d r = eqb (has (get_or fires (r * 3 + 1) 0) j) 1 || eqb (has (get_or fires (r * 3) 0) j) d

-- a row fires in the state s
unfoldable pub stands : List ℕ → ℕ → ℕ → Bool
stands fires s r = eqb (has (get_or fires (r * 3 + 2) 0) s) 1

-- at the inputs from j on, k of them, which are the digits of v below 2^k, the highest first
unfoldable pub lets_from : List ℕ → ℕ → ℕ → ℕ → ℕ → Bool
unfolding lets
lets_from fires j zero v r = true
lets_from fires j (suc k) v r = lets fires j (has v k) r && lets_from fires (suc j) k v r

-- at the state s and the inputs that v is as a number
unfoldable pub row_fires : List ℕ → ℕ → ℕ → ℕ → ℕ → Bool
unfolding stands lets_from
row_fires fires i s v r = stands fires s r && lets_from fires 0 i v r

-- ---- as words

-- of k rows from a on those that have p, the first at digit 0
unfoldable pub word_from : (ℕ → Bool) → ℕ → ℕ → ℕ
word_from p a zero = 0
word_from p a (suc k) = word_from p (suc a) k * 2 + digit (p a)

-- of all rows
unfoldable pub words_of : (ℕ → Bool) → List ℕ
unfolding word_from states_from
words_of p = map (λ q. word_from p (q * 64) 64) (states_from 0 7)

-- word w of the columns: for each input fourteen
unfoldable pub column_word : List ℕ → ℕ → ℕ
unfolding lets word_from
column_word fires w = word_from (lets fires (w / 14) (w % 14 / 7)) (w % 7 * 64) 64

unfoldable pub columns : List ℕ → List ℕ
unfolding column_word states_from
columns fires = map (column_word fires) (states_from 0 column_words)

unfoldable pub present_word : List ℕ → ℕ → ℕ → ℕ
unfolding stands word_from
present_word fires s q = word_from (stands fires s) (q * 64) 64

unfoldable pub present : List ℕ → ℕ → List ℕ
unfolding stands words_of
present fires s = words_of (stands fires s)

-- ---- some rows

-- one of k rows from a on has p
unfoldable pub any_from : (ℕ → Bool) → ℕ → ℕ → Bool
any_from p a zero = false
any_from p a (suc k) = p a || any_from p (suc a) k
