-- 02, request 05: the lines of a flow table, `FT` and for each column a next state number or a dash; what one says, or its refusal.
use Rattle.rules.specs.declared.Head.{Head}
use Rattle.std.specs.Prelude.{Bool, true, false, ◌&&◌, cond, List, [], map, ℕ, ◌+◌, ◌-◌, length, get_or, leb, ltb, eqb, Result, Option, Ok, Err, Some, None}
use Rattle.sets.specs.Sets.{every, states_from}
use Rattle.rules.specs.Limits.{most_columns}
use Rattle.rules.specs.Text.{bytes, same, split, fields_of, field_at, mark_of, numeral_of}
use Rattle.rules.specs.Lines.{head_line, end_line}
use Rattle.rules.specs.FlowTable.{no_state}
use Rattle.rules.specs.declared.Mark.{Mark}
use Rattle.rules.specs.declared.Mark.TheVariants.{Mc, Mo, Pt, Di, Ou, Ft, En, Unknown}
use Rattle.rules.specs.declared.Refusal.{Refusal}
use Rattle.rules.specs.declared.Refusal.TheVariants.{BadLine, Place}

-- The head of a flow table, if lines l and m begin one: `MC`, and behind it `FT`. Of any other listing the ordinary reader has the word.
unfoldable pub flow_head : List ℕ → List ℕ → Result Head Refusal
unfolding same mark_of head_line
flow_head l m = cond (same (mark_of l) (bytes "MC") && same (mark_of m) (bytes "FT")) (head_line false l) (Err Place)

-- ---- one entry

-- a state number below n, written as in `MC`, or a dash
unfoldable pub entry_of : ℕ → List ℕ → Option ℕ
unfolding same numeral_of
entry_of n f = cond (same f (bytes "-")) (Some no_state) (elim (numeral_of f) [ Some v ↦ cond (ltb v n) (Some v) None | None ↦ None ])

abbrev pub is_entry : Option ℕ → Bool
is_entry (Some v) = true
is_entry None = false

abbrev pub value_of : Option ℕ → ℕ
value_of (Some v) = v
value_of None = no_state

-- what line l says in column c
unfoldable pub entry_at : ℕ → ℕ → List ℕ → ℕ
unfolding split entry_of
entry_at n c l = value_of (entry_of n (field_at l (c + 1)))

-- ---- one line

-- there are as many columns as the first line has fields behind its mark
unfoldable pub column_count : List (List ℕ) → ℕ
unfolding split
column_count lines = length (fields_of (get_or lines 0 [])) - 1

-- a line of so many columns, 1 to 16; n states
unfoldable pub flow_line : ℕ → ℕ → List ℕ → Result Unit Refusal
unfolding split entry_of every
flow_line n columns l =
    cond (leb 1 columns && leb columns most_columns && eqb (length (fields_of l)) (columns + 1) && every columns (λ c. is_entry (entry_of n (field_at l (c + 1)))))
    (Ok tt)
    (Err BadLine)

-- the columns that these lines say
unfoldable pub columns_of : ℕ → ℕ → List (List ℕ) → List (List ℕ)
unfolding entry_at states_from
columns_of n columns lines = map (λ c. map (entry_at n c) lines) (states_from 0 columns)

-- ---- what a line does

-- the table goes on, or ends with it, or is refused
pub data FlowStep : Type 0 where
  flow_goes : FlowStep
  flow_ends : FlowStep
  flow_stops : Refusal → FlowStep

abbrev pub on_flow : Result Unit Refusal → FlowStep
on_flow (Ok tt) = flow_goes
on_flow (Err r) = flow_stops r

abbrev pub on_flow_end : Result Unit Refusal → FlowStep
on_flow_end (Ok tt) = flow_ends
on_flow_end (Err r) = flow_stops r

-- The place of line k: a line for each of n states, from line 2 on, and behind them `EN`; no other line stands beside them.
unfoldable pub flow_placed : Mark → ℕ → ℕ → Bool
flow_placed Mc k n = false
flow_placed Mo k n = false
flow_placed Pt k n = false
flow_placed Di k n = false
flow_placed Ou k n = false
flow_placed Ft k n = leb k (n + 1)
flow_placed En k n = leb (n + 2) k
flow_placed Unknown k n = true

-- a line in its place: an unknown mark is 1
unfoldable pub flow_does : Mark → ℕ → ℕ → List ℕ → FlowStep
unfolding flow_line end_line
flow_does Mc n columns l = flow_stops BadLine
flow_does Mo n columns l = flow_stops BadLine
flow_does Pt n columns l = flow_stops BadLine
flow_does Di n columns l = flow_stops BadLine
flow_does Ou n columns l = flow_stops BadLine
flow_does Ft n columns l = on_flow (flow_line n columns l)
flow_does En n columns l = on_flow_end (end_line l)
flow_does Unknown n columns l = flow_stops BadLine
