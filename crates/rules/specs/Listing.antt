-- 01, "The listing" and the order of its refusals, with 02, requests 05 and 13: lines from the top, the first faulty line decides, then a state without outputs, then the
-- conflict; of a flow table, then a destination that is not stable, then too many dichotomies.
use Rattle.rules.specs.declared.StateOutputs.{StateOutputs}
use Rattle.std.specs.Prelude.{Bool, true, false, ◌&&◌, ◌||◌, not, cond, List, [], ◌∷◌, ◌++◌, ℕ, ◌+◌, length, take, set, replicate, leb, eqb, Result, Ok, Err, Some, None}
use Rattle.std.specs.Int.Bits.{bit_and, bit_or}
use Rattle.sets.specs.Sets.{has, only, everyone, every, states_from}
use Rattle.rules.specs.Limits.{most_bytes, most_states, most_inputs, most_rows, most_dichotomies}
use Rattle.rules.specs.Text.{split, lines_of, field_at, mark_of, mark_is, numeral_of}
use Rattle.rules.specs.Lines.{head_line, row_line, dichotomy_line, outputs_line, end_line}
use Rattle.rules.specs.FlowTable.{flow_asks, stability}
use Rattle.rules.specs.FlowLines.{flow_head, column_count, columns_of, FlowStep, flow_goes, flow_ends, flow_stops, flow_placed, flow_does}
use Rattle.rules.specs.declared.Head.{Head}
use Rattle.rules.specs.declared.Pattern.{Pattern}
use Rattle.rules.specs.declared.Row.{Row}
use Rattle.rules.specs.declared.Requirement.{Requirement}
use Rattle.rules.specs.declared.Listing.{Listing}
use Rattle.rules.specs.declared.Mark.{Mark}
use Rattle.rules.specs.declared.Mark.TheVariants.{Mc, Mo, Pt, Di, Ou, Ft, En, Unknown}
use Rattle.rules.specs.declared.Refusal.{Refusal}
use Rattle.rules.specs.declared.Refusal.TheVariants.{BadLine, Limit, Place, Conflict, NoOutputs}
use Rattle.rules.specs.Refusals.{Verdict, refused}
use Rattle.rules.specs.declared.Refused.{Refused}

-- ---- a listing as it grows

abbrev pub no_pattern : Pattern
no_pattern = record { ones = 0; dashes = 0 }

abbrev pub no_row : Row
no_row = record { input = no_pattern; group = 0; next = 0; outputs = no_pattern; line = 0 }

abbrev pub no_requirement : Requirement
no_requirement = record { first = 0; second = 0 }

unfoldable pub blank : Listing
blank = record {
  head = record { states = 0; inputs = 0; outputs = 0; width = 0; keeps = false; moore = false };
  rows = 0;
  table = replicate most_rows no_row;
  dichotomies = 0;
  asked = replicate most_dichotomies no_requirement;
  said = replicate most_states no_pattern;
  given = 0;
}

abbrev pub with_head : Head → Listing → Listing
with_head h t = record { head = h; rows = t.rows; table = t.table; dichotomies = t.dichotomies; asked = t.asked; said = t.said; given = t.given }

abbrev pub with_row : Row → Listing → Listing
with_row r t = record {
  head = t.head;
  rows = t.rows + 1;
  table = set t.table t.rows r;
  dichotomies = t.dichotomies;
  asked = t.asked;
  said = t.said;
  given = t.given;
}

abbrev pub with_dichotomy : Requirement → Listing → Listing
with_dichotomy d t = record {
  head = t.head;
  rows = t.rows;
  table = t.table;
  dichotomies = t.dichotomies + 1;
  asked = set t.asked t.dichotomies d;
  said = t.said;
  given = t.given;
}

abbrev pub with_outputs : ℕ → Pattern → Listing → Listing
with_outputs s p t = record {
  head = t.head;
  rows = t.rows;
  table = t.table;
  dichotomies = t.dichotomies;
  asked = t.asked;
  said = set t.said s p;
  given = bit_or t.given (only s);
}

-- the rows and the dichotomies of a listing
abbrev pub rows_of : Listing → List Row
rows_of t = take t.rows t.table

abbrev pub dichotomies_of : Listing → List Requirement
dichotomies_of t = take t.dichotomies t.asked

-- what the `OU` line of the state s says, as a row of that state alone, with dashes for the inputs, that names no next state
abbrev pub state_row : ℕ → Pattern → Row
state_row s p = record { input = record { ones = 0; dashes = everyone most_inputs }; group = only s; next = 0; outputs = p; line = 0 }

-- of each state, from s on
unfoldable pub state_rows : ℕ → List Pattern → List Row
state_rows s [] = []
state_rows s (p ∷ ps) = state_row s p ∷ state_rows (s + 1) ps

-- all that a listing says: its rows, and under `MO` one row for each state, in order
unfoldable pub all_rows : Listing → List Row
unfolding state_rows
all_rows t = rows_of t ++ cond t.head.moore (state_rows 0 (take t.head.states t.said)) []

-- ---- the lines

-- what the reader of a whole text gives: the listing, or the refusal and its line
abbrev pub Reading : Type 0
Reading = Result Listing Refused

-- what one line does: the listing goes on, or ends with it, or is refused
pub data Step : Type 0 where
  goes : Listing → Step
  ends : Step
  stops : Refusal → Step

abbrev pub on_head : Result Head Refusal → Listing → Step
on_head (Ok h) t = goes (with_head h t)
on_head (Err r) t = stops r

abbrev pub on_row : Result Row Refusal → Listing → Step
on_row (Ok r) t = goes (with_row r t)
on_row (Err r) t = stops r

abbrev pub on_dichotomy : Result Requirement Refusal → Listing → Step
on_dichotomy (Ok d) t = goes (with_dichotomy d t)
on_dichotomy (Err r) t = stops r

abbrev pub on_outputs : Result StateOutputs Refusal → Listing → Step
on_outputs (Ok o) t = goes (with_outputs o.state.0 o.outputs t)
on_outputs (Err r) t = stops r

abbrev pub on_end : Result Unit Refusal → Step
on_end (Ok tt) = ends
on_end (Err r) = stops r

-- the state that an `OU` line names, if its number can be read, has had one
unfoldable pub had_outputs : ℕ → List ℕ → Bool
unfolding split numeral_of
had_outputs given l = elim (numeral_of (field_at l 1)) [ Some s ↦ eqb (has given s) 1 | None ↦ false ]

-- The place of line k, under the head h and behind `OU` lines of the states given: `MC` or `MO` is line 1 and no other; `OU` stands under `MO`,
-- once for a state; `FT` stands in a flow table alone.
unfoldable pub placed : Mark → ℕ → Head → ℕ → List ℕ → Bool
unfolding had_outputs
placed Mc k h given l = eqb k 1
placed Mo k h given l = eqb k 1
placed Pt k h given l = not (eqb k 1)
placed Di k h given l = not (eqb k 1)
placed Ou k h given l = not (eqb k 1) && (h.moore && not (had_outputs given l))
placed Ft k h given l = false
placed En k h given l = not (eqb k 1)
placed Unknown k h given l = not (eqb k 1)

-- a line in its place: an unknown mark is 1
unfoldable pub line_does : Mark → ℕ → Listing → List ℕ → Step
unfolding head_line row_line dichotomy_line outputs_line end_line
line_does Mc k t l = on_head (head_line false l) t
line_does Mo k t l = on_head (head_line true l) t
line_does Pt k t l = on_row (row_line t.head t.rows k l) t
line_does Di k t l = on_dichotomy (dichotomy_line t.head t.dichotomies l) t
line_does Ou k t l = on_outputs (outputs_line t.head l) t
line_does Ft k t l = stops BadLine
line_does En k t l = on_end (end_line l)
line_does Unknown k t l = stops BadLine

-- line k, behind those that made t: out of its place it is 3
unfoldable pub line_step : ℕ → Listing → List ℕ → Step
unfolding placed line_does mark_of mark_is
line_step k t l = cond (placed (mark_is (mark_of l)) k t.head t.given l) (line_does (mark_is (mark_of l)) k t l) (stops Place)

-- ---- the end

-- nothing stands behind the last LF
unfoldable pub nothing : List (List ℕ) → Bool
nothing [] = true
nothing ([] ∷ []) = true
nothing ([] ∷ (l ∷ ls)) = false
nothing ((x ∷ xs) ∷ ls) = false

-- under `MO` each state has its `OU` line, those given
unfoldable pub complete : Head → ℕ → Bool
unfolding every
complete h given = not h.moore || every h.states (λ s. eqb (has given s) 1)

-- after `EN`, which stood on line k: bytes after it are 3, then a state without `OU` is 17
unfoldable pub ended : ℕ → Listing → List (List ℕ) → Reading
unfolding nothing complete
ended k t rest = cond (nothing rest) (cond (complete t.head t.given) (Ok t) (refused NoOutputs k)) (refused Place (k + 1))

-- what stands behind the last LF, as line k: nothing, so `EN` is missing; or a line without LF, whose place is judged before that
unfoldable pub unended : ℕ → Head → ℕ → List ℕ → Reading
unfolding placed mark_of mark_is
unended k h given [] = refused Place k
unended k h given (x ∷ xs) = cond (placed (mark_is (mark_of (x ∷ xs))) k h given (x ∷ xs)) (refused BadLine k) (refused Place k)

-- the lines from number k on, behind those that made t
unfoldable pub read_lines : ℕ → Listing → List (List ℕ) → Reading
unfolding unended ended line_step
read_lines k t [] = refused Place k
read_lines k t (l ∷ []) = unended k t.head t.given l
read_lines k t (l ∷ (m ∷ ms)) =
    elim (line_step k t l) [
      | goes u ↦ read_lines (k + 1) u (m ∷ ms)
      | ends ↦ ended k t (m ∷ ms)
      | stops r ↦ refused r k
    ]

-- ---- the lines of a flow table

-- line k, of n states and so many columns: out of its place it is 3
unfoldable pub flow_step : ℕ → ℕ → ℕ → List ℕ → FlowStep
unfolding flow_placed flow_does mark_of mark_is
flow_step k n columns l = cond (flow_placed (mark_is (mark_of l)) k n) (flow_does (mark_is (mark_of l)) n columns l) (flow_stops Place)

-- some dichotomies in place of `DI`
unfoldable pub with_dichotomies : List Requirement → Listing → Listing
with_dichotomies [] t = t
with_dichotomies (d ∷ ds) t = with_dichotomies ds (with_dichotomy d t)

-- more than 64 are too many
unfoldable pub flow_gives : Head → List Requirement → Reading
unfolding blank with_dichotomies
flow_gives h ds = cond (leb (length ds) most_dichotomies) (Ok (with_dichotomies ds (with_head h blank))) (refused Limit 0)

-- what a table of these columns gives, if each destination is stable
unfoldable pub flow_read : Head → List (List ℕ) → Reading
unfolding flow_gives flow_asks stability states_from
flow_read h columns = elim (stability columns (states_from 0 h.states)) [ Ok _ ↦ flow_gives h (flow_asks columns) | Err why ↦ Err why ]

-- after `EN`, which stood on line k: bytes after it are 3
unfoldable pub flow_ended : ℕ → Head → List (List ℕ) → List (List ℕ) → Reading
unfolding nothing flow_read columns_of column_count
flow_ended k h all rest = cond (nothing rest) (flow_read h (columns_of h.states (column_count all) (take h.states all))) (refused Place (k + 1))

-- what stands behind the last LF, as line k
unfoldable pub flow_unended : ℕ → ℕ → List ℕ → Reading
unfolding flow_placed mark_of mark_is
flow_unended k n [] = refused Place k
flow_unended k n (x ∷ xs) = cond (flow_placed (mark_is (mark_of (x ∷ xs))) k n) (refused BadLine k) (refused Place k)

-- the lines from number k on, of all those behind the head
unfoldable pub flow_lines : ℕ → Head → List (List ℕ) → List (List ℕ) → Reading
unfolding flow_unended flow_ended flow_step column_count
flow_lines k h all [] = refused Place k
flow_lines k h all (l ∷ []) = flow_unended k h.states l
flow_lines k h all (l ∷ (m ∷ ms)) =
    elim (flow_step k h.states (column_count all) l) [
      | flow_goes ↦ flow_lines (k + 1) h all (m ∷ ms)
      | flow_ends ↦ flow_ended k h all (m ∷ ms)
      | flow_stops r ↦ refused r k
    ]

-- ---- all lines: those of a flow table, or of an ordinary listing

unfoldable pub read_all : List (List ℕ) → Reading
unfolding read_lines blank flow_head flow_lines
read_all [] = read_lines 1 blank []
read_all (l ∷ []) = read_lines 1 blank (l ∷ [])
read_all (l ∷ (m ∷ ms)) =
    elim (flow_head l m) [
      | Ok h ↦ flow_lines 2 h (m ∷ ms) (m ∷ ms)
      | Err r ↦ read_lines 1 blank (l ∷ (m ∷ ms))
    ]

-- ---- the conflict

-- some entry of a list has p
unfoldable pub some : {A : Type 0} → (A → Bool) → List A → Bool
some p [] = false
some p (x ∷ xs) = p x || some p xs

-- two rows share an input vector: at no input does one say 0 and the other 1
unfoldable pub share_input : Row → Row → Bool
unfolding every
share_input a b = every most_inputs (λ j. eqb (has a.input.dashes j) 1 || (eqb (has b.input.dashes j) 1 || eqb (has a.input.ones j) (has b.input.ones j)))

-- two rows share an input vector and a state
unfoldable pub meets : Row → Row → Bool
unfolding share_input
meets a b = share_input a b && not (eqb (bit_and a.group b.group) 0)

-- they share both and name different next states; a row without a next state clashes with none
unfoldable pub clash : Row → Row → Bool
unfolding meets
clash a b = meets a b && not (eqb a.next 0) && not (eqb b.next 0) && not (eqb a.next b.next)

-- the first of the rows that clashes with a: refused at its line
unfoldable pub clash_with : Row → List Row → Verdict
unfolding clash
clash_with a [] = Ok tt
clash_with a (b ∷ bs) = elim (clash a b) [ true ↦ refused Conflict b.line | false ↦ clash_with a bs ]

abbrev pub or_else : Verdict → Verdict → Verdict
or_else (Ok tt) v = v
or_else (Err why) v = Err why

-- pairs are ordered by the earlier row and then the later one, and the scan stops at the first that clashes
unfoldable pub conflict : List Row → Verdict
unfolding clash_with
conflict [] = Ok tt
conflict (a ∷ rest) = or_else (clash_with a rest) (conflict rest)

-- ---- the whole

abbrev pub judged : Verdict → Listing → Reading
judged (Ok _) t = Ok t
judged (Err why) t = Err why

abbrev pub checked : Reading → Reading
checked (Ok t) = judged (conflict (rows_of t)) t
checked (Err why) = Err why

-- any bytes at all: the listing, or the refusal and its line
unfoldable pub reading : List ℕ → Reading
unfolding split read_all conflict
reading s = cond (leb (length s) most_bytes) (checked (read_all (lines_of s))) (refused Limit 0)
