-- 02, request 01: the listing that a KISS2 text says. Lines from the top, the first faulty line decides, within it 3, 1, 12, 2; then a `.s` or `.p` that disagrees, 12;
-- then the conflict.
use Rattle.std.specs.Prelude.{Bool, true, false, ◌&&◌, ◌||◌, not, cond, List, [], ◌∷◌, ◌++◌, map, ℕ, ◌+◌, length, take, get_or, set, replicate, leb, ltb, eqb, Option, Some, None, Ok}
use Rattle.std.specs.Int.Bits.{bit_and, bit_or}
use Rattle.sets.specs.Sets.{only, everyone}
use Rattle.rules.specs.Limits.{most_bytes, most_states, most_inputs, most_outputs, most_rows, most_dichotomies}
use Rattle.rules.specs.Text.{one, dash, same, set_of, split, lines_of, fields_of, field_at, mark_of}
use Rattle.rules.specs.KissLines.{kiss_mark, number_line, is_star, is_short, reset_fits, row_fields_fit, first_place}
use Rattle.rules.specs.Listing.{no_pattern, no_row, no_requirement, rows_of, nothing, conflict, or_else, judged, Reading}
use Rattle.rules.specs.declared.Pattern.{Pattern}
use Rattle.rules.specs.declared.Row.{Row}
use Rattle.rules.specs.declared.Listing.{Listing}
use Rattle.rules.specs.declared.Told.{Told}
use Rattle.rules.specs.declared.KissHeads.{KissHeads}
use Rattle.rules.specs.declared.KissMark.{KissMark}
use Rattle.rules.specs.declared.Refusal.{Refusal}
use Rattle.rules.specs.declared.Refusal.TheVariants.{BadLine, Limit, Place, Names}
use Rattle.rules.specs.Refusals.{Verdict, refused}

-- ---- what the lines so far have said

-- the headers; the names, in the order of their numbers; and the rows, in the first places of a table
pub record Draft : Type 0 where
  pub heads : KissHeads
  pub names : List (List ℕ)
  pub rows : ℕ
  pub table : List Row

abbrev pub untold : Told
untold = record { number = 0; line = 0 }

abbrev pub no_heads : KissHeads
no_heads = record { inputs = 0; outputs = 0; states = untold; products = untold; reset = false; lines = 0 }

unfoldable pub no_draft : Draft
no_draft = record { heads = no_heads; names = []; rows = 0; table = replicate most_rows no_row }

abbrev pub with_inputs : ℕ → KissHeads → KissHeads
with_inputs n h = record { inputs = n; outputs = h.outputs; states = h.states; products = h.products; reset = h.reset; lines = h.lines }

abbrev pub with_outputs : ℕ → KissHeads → KissHeads
with_outputs n h = record { inputs = h.inputs; outputs = n; states = h.states; products = h.products; reset = h.reset; lines = h.lines }

abbrev pub with_states : Told → KissHeads → KissHeads
with_states t h = record { inputs = h.inputs; outputs = h.outputs; states = t; products = h.products; reset = h.reset; lines = h.lines }

abbrev pub with_products : Told → KissHeads → KissHeads
with_products t h = record { inputs = h.inputs; outputs = h.outputs; states = h.states; products = t; reset = h.reset; lines = h.lines }

abbrev pub with_reset : KissHeads → KissHeads
with_reset h = record { inputs = h.inputs; outputs = h.outputs; states = h.states; products = h.products; reset = true; lines = h.lines }

-- one line of a row more
abbrev pub with_line : KissHeads → KissHeads
with_line h = record { inputs = h.inputs; outputs = h.outputs; states = h.states; products = h.products; reset = h.reset; lines = h.lines + 1 }

abbrev pub with_heads : KissHeads → Draft → Draft
with_heads h d = record { heads = h; names = d.names; rows = d.rows; table = d.table }

-- ---- states, numbered as they first appear

-- the number of a name; that of the next state where it is new
unfoldable pub number_of : List (List ℕ) → List ℕ → ℕ
unfolding first_place same
number_of ns f = first_place (λ n. same n f) ns

-- the names, when the field f has named a state
unfoldable pub named : List (List ℕ) → List ℕ → List (List ℕ)
unfolding is_star number_of
named ns f = cond (is_star f || ltb (number_of ns f) (length ns)) ns (ns ++ (f ∷ []))

-- a present state of `*` is the group of all states that there can be; it is cut to those there are when all lines are read
unfoldable pub present_of : List (List ℕ) → List ℕ → ℕ
unfolding is_star number_of
present_of ns f = cond (is_star f) (everyone most_states) (only (number_of ns f))

-- a next state of `*` names none
unfoldable pub next_of : List (List ℕ) → List ℕ → ℕ
unfolding is_star number_of
next_of ns f = cond (is_star f) 0 (only (number_of ns f))

-- ---- rows, joined where input, next state and outputs are equal

abbrev pub same_pattern : Pattern → Pattern → Bool
same_pattern p q = eqb p.ones q.ones && eqb p.dashes q.dashes

unfoldable pub same_row : Row → Row → Bool
same_row r q = same_pattern r.input q.input && (eqb r.next q.next && same_pattern r.outputs q.outputs)

-- the row that a line joins, or the place behind the last
unfoldable pub place_of : Row → List Row → ℕ
unfolding first_place same_row
place_of r rs = first_place (same_row r) rs

-- a row with the states of another; it keeps its line
abbrev pub joined : Row → Row → Row
joined q r = record { input = q.input; group = bit_or q.group r.group; next = q.next; outputs = q.outputs; line = q.line }

-- what one line does: the text goes on, or ends with it, or is refused
pub data KissStep : Type 0 where
  goes : Draft → KissStep
  ends : KissStep
  stops : Refusal → KissStep

-- line by line the rows get one more, or one that is there gets a state more; a 129th row is 2
unfoldable pub row_joins : Row → KissHeads → List (List ℕ) → ℕ → List Row → KissStep
unfolding place_of
row_joins r h ns rows table =
    cond (ltb (place_of r (take rows table)) rows)
    (goes (record { heads = h; names = ns; rows = rows; table = set table (place_of r (take rows table)) (joined (get_or table (place_of r (take rows table)) no_row) r) }))
    (cond (ltb rows most_rows) (goes (record { heads = h; names = ns; rows = rows + 1; table = set table rows r })) (stops Limit))

-- the present state is numbered before the next; a 65th state is 2
unfoldable pub row_does : ℕ → Draft → Pattern → List ℕ → List ℕ → Pattern → KissStep
unfolding named present_of next_of row_joins
row_does k d input present next outputs =
    cond (leb (length (named (named d.names present) next)) most_states)
    (row_joins
    (record { input = input; group = present_of d.names present; next = next_of (named d.names present) next; outputs = outputs; line = k })
    (with_line d.heads) (named (named d.names present) next) d.rows d.table)
    (stops Limit)

-- ---- the lines

abbrev pub on_number : Option ℕ → (ℕ → KissStep) → KissStep
on_number (Some n) f = f n
on_number None f = stops BadLine

-- inputs 1..16, outputs 1..32
unfoldable pub inputs_do : Draft → ℕ → KissStep
inputs_do d n = cond (leb 1 n && leb n most_inputs) (goes (with_heads (with_inputs n d.heads) d)) (stops Limit)

unfoldable pub outputs_do : Draft → ℕ → KissStep
outputs_do d n = cond (leb 1 n && leb n most_outputs) (goes (with_heads (with_outputs n d.heads) d)) (stops Limit)

-- the `.r` name is state 0
unfoldable pub reset_does : Draft → List ℕ → KissStep
unfolding split reset_fits is_short
reset_does d l =
    cond (reset_fits l)
    (cond (is_short (field_at l 1)) (goes (record { heads = with_reset d.heads; names = field_at l 1 ∷ []; rows = d.rows; table = d.table })) (stops Names))
    (stops BadLine)

-- `.e` with no state is 2
unfoldable pub end_does : Draft → List ℕ → KissStep
unfolding split
end_does d l = cond (eqb (length (fields_of l)) 1) (cond (eqb (length d.names) 0) (stops Limit) ends) (stops BadLine)

abbrev pub pattern_of : List ℕ → Pattern
pattern_of f = record { ones = set_of one f; dashes = set_of dash f }

unfoldable pub row_line_does : ℕ → Draft → List ℕ → KissStep
unfolding split set_of row_fields_fit is_short row_does
row_line_does k d l =
    cond (row_fields_fit d.heads.inputs d.heads.outputs l)
    (cond (is_short (field_at l 1) && is_short (field_at l 2)) (row_does k d (pattern_of (field_at l 0)) (field_at l 1) (field_at l 2) (pattern_of (field_at l 3))) (stops Names))
    (stops BadLine)

-- A header comes once, and before the rows; a row and `.e` come behind `.i` and `.o`. An unknown mark is 1 anywhere.
unfoldable pub kiss_placed : KissMark → KissHeads → Bool
kiss_placed KissMark.Inputs h = eqb h.inputs 0 && eqb h.lines 0
kiss_placed KissMark.Outputs h = eqb h.outputs 0 && eqb h.lines 0
kiss_placed KissMark.States h = eqb h.states.line 0 && eqb h.lines 0
kiss_placed KissMark.Products h = eqb h.products.line 0 && eqb h.lines 0
kiss_placed KissMark.Reset h = not h.reset && eqb h.lines 0
kiss_placed KissMark.End h = not (eqb h.inputs 0) && not (eqb h.outputs 0)
kiss_placed KissMark.Unknown h = true
kiss_placed KissMark.Row h = not (eqb h.inputs 0) && not (eqb h.outputs 0)

-- line k, in its place
unfoldable pub kiss_does : KissMark → ℕ → Draft → List ℕ → KissStep
unfolding number_line inputs_do outputs_do reset_does end_does row_line_does
kiss_does KissMark.Inputs k d l = on_number (number_line l) (inputs_do d)
kiss_does KissMark.Outputs k d l = on_number (number_line l) (outputs_do d)
kiss_does KissMark.States k d l = on_number (number_line l) (λ n. goes (with_heads (with_states (record { number = n; line = k }) d.heads) d))
kiss_does KissMark.Products k d l = on_number (number_line l) (λ n. goes (with_heads (with_products (record { number = n; line = k }) d.heads) d))
kiss_does KissMark.Reset k d l = reset_does d l
kiss_does KissMark.End k d l = end_does d l
kiss_does KissMark.Unknown k d l = stops BadLine
kiss_does KissMark.Row k d l = row_line_does k d l

-- out of its place it is 3
unfoldable pub kiss_step : ℕ → Draft → List ℕ → KissStep
unfolding kiss_placed kiss_does mark_of kiss_mark
kiss_step k d l = cond (kiss_placed (kiss_mark (mark_of l)) d.heads) (kiss_does (kiss_mark (mark_of l)) k d l) (stops Place)

-- ---- the listing so made

-- of the group of a row, the states that there are
abbrev pub cut_to : ℕ → Row → Row
cut_to n r = record { input = r.input; group = bit_and r.group (everyone n); next = r.next; outputs = r.outputs; line = r.line }

-- of n states
unfoldable pub listing_of : KissHeads → ℕ → ℕ → List Row → Listing
listing_of h n rows table = record {
  head = record { states = n; inputs = h.inputs; outputs = h.outputs; width = 0; keeps = false; moore = false };
  rows = rows;
  table = map (cut_to n) table;
  dichotomies = 0;
  asked = replicate most_dichotomies no_requirement;
  said = replicate most_states no_pattern;
  given = 0;
}

-- a header that told another number than the count is 12 at its line
unfoldable pub disagrees : Told → ℕ → Verdict
disagrees t count = cond (eqb t.line 0 || eqb t.number count) (Ok tt) (refused Names t.line)

-- `.s` counts the names, `.p` the lines of rows before they are joined; the earlier line first
unfoldable pub disagreement : KissHeads → ℕ → Verdict
unfolding disagrees
disagreement h n =
    elim (ltb h.states.line h.products.line) [
      | true ↦ or_else (disagrees h.states n) (disagrees h.products h.lines)
      | false ↦ or_else (disagrees h.products h.lines) (disagrees h.states n)
    ]

-- when all lines are read: 12, then 6
unfoldable pub kiss_made : KissHeads → ℕ → ℕ → List Row → Reading
unfolding disagreement conflict listing_of
kiss_made h n rows table = judged (or_else (disagreement h n) (conflict (rows_of (listing_of h n rows table)))) (listing_of h n rows table)

-- ---- the end

-- after `.e`, which stood on line k: bytes after it are 3
unfoldable pub kiss_ended : ℕ → Draft → List (List ℕ) → Reading
unfolding nothing kiss_made
kiss_ended k d rest = cond (nothing rest) (kiss_made d.heads (length d.names) d.rows d.table) (refused Place (k + 1))

-- what stands behind the last LF, as line k: nothing, so `.e` is missing; or a line without LF, whose place is judged before that
unfoldable pub kiss_unended : ℕ → KissHeads → List ℕ → Reading
unfolding kiss_placed mark_of kiss_mark
kiss_unended k h [] = refused Place k
kiss_unended k h (x ∷ xs) = cond (kiss_placed (kiss_mark (mark_of (x ∷ xs))) h) (refused BadLine k) (refused Place k)

-- the lines from number k on, behind those that made d
unfoldable pub kiss_lines : ℕ → Draft → List (List ℕ) → Reading
unfolding kiss_unended kiss_ended kiss_step
kiss_lines k d [] = refused Place k
kiss_lines k d (l ∷ []) = kiss_unended k d.heads l
kiss_lines k d (l ∷ (m ∷ ms)) =
    elim (kiss_step k d l) [
      | goes u ↦ kiss_lines (k + 1) u (m ∷ ms)
      | ends ↦ kiss_ended k d (m ∷ ms)
      | stops r ↦ refused r k
    ]

-- any bytes at all: the listing, or the refusal and its line
unfoldable pub kiss_reading : List ℕ → Reading
unfolding split kiss_lines no_draft
kiss_reading s = cond (leb (length s) most_bytes) (kiss_lines 1 no_draft (lines_of s)) (refused Limit 0)
