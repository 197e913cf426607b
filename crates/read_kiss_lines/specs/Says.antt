-- What the readers of one line answer beside `rules`: what a line says, with names as places in the line, or its refusal.
use Rattle.rules.specs.declared.Refusal.{Refusal}
use Rattle.std.specs.Prelude.{◌&&◌, cond, List, ℕ, zero, suc, ◌+◌, length, leb, eqb, Result, Option, Ok, Err, Some, None}
use Rattle.rules.specs.Limits.{most_inputs, most_outputs}
use Rattle.rules.specs.Text.{space, split, fields_of, field_at, set_of}
use Rattle.rules.specs.KissLines.{is_filled, is_short, reset_fits, row_fields_fit}
use Rattle.rules.specs.Kiss.{with_inputs, with_outputs, with_states, with_products, pattern_of}
use Rattle.rules.specs.declared.KissHeads.{KissHeads}
use Rattle.rules.specs.declared.KissMark.{KissMark}
use Rattle.rules.specs.declared.Pattern.{Pattern}
use Rattle.rules.specs.declared.Refusal.TheVariants.{BadLine, Limit, Names}
use Rattle.read_pieces.specs.Pieces.{end_of}
use Rattle.read_names.specs.declared.Piece.{Piece}
use Rattle.read_kiss_lines.specs.declared.row.StatePieces.{StatePieces}
use Rattle.read_kiss_lines.specs.declared.row.KissRow.{KissRow}

-- ---- headers

unfoldable pub inputs_told : KissHeads → ℕ → Result KissHeads Refusal
inputs_told h n = cond (leb 1 n && leb n most_inputs) (Ok (with_inputs n h)) (Err Limit)

unfoldable pub outputs_told : KissHeads → ℕ → Result KissHeads Refusal
outputs_told h n = cond (leb 1 n && leb n most_outputs) (Ok (with_outputs n h)) (Err Limit)

unfoldable pub told : KissMark → ℕ → KissHeads → ℕ → Result KissHeads Refusal
unfolding inputs_told outputs_told
told KissMark.Inputs k h n = inputs_told h n
told KissMark.Outputs k h n = outputs_told h n
told KissMark.States k h n = Ok (with_states (record { number = n; line = k }) h)
told KissMark.Products k h n = Ok (with_products (record { number = n; line = k }) h)
told KissMark.Reset k h n = Err BadLine
told KissMark.End k h n = Err BadLine
told KissMark.Unknown k h n = Err BadLine
told KissMark.Row k h n = Err BadLine

unfoldable pub heads_line : KissMark → ℕ → KissHeads → Option ℕ → Result KissHeads Refusal
unfolding told
heads_line m k h (Some n) = told m k h n
heads_line m k h None = Err BadLine

-- ---- places of fields

-- where field k starts: behind the space that ends the one before
unfoldable pub field_start : List ℕ → ℕ → ℕ
unfolding end_of
field_start l zero = 0
field_start l (suc k) = end_of space l (field_start l k) + 1

unfoldable pub field_piece : List ℕ → ℕ → Piece
unfolding field_start end_of
field_piece l k = record { start = field_start l k; end = end_of space l (field_start l k) }

-- ---- names

unfoldable pub reset_line : List ℕ → Result Piece Refusal
unfolding split reset_fits is_short field_piece
reset_line l = cond (reset_fits l) (cond (is_short (field_at l 1)) (Ok (field_piece l 1)) (Err Names)) (Err BadLine)

unfoldable pub kiss_end_line : ℕ → List ℕ → Result Unit Refusal
unfolding split
kiss_end_line count l = cond (eqb (length (fields_of l)) 1) (cond (eqb count 0) (Err Limit) (Ok tt)) (Err BadLine)

-- ---- rows

unfoldable pub state_pieces : List ℕ → StatePieces
unfolding field_piece
state_pieces l = record { present = field_piece l 1; next = field_piece l 2 }

-- a row whose input and outputs are read
unfoldable pub row_read : List ℕ → Pattern → Pattern → Result KissRow Refusal
unfolding split is_filled is_short state_pieces
row_read l input outputs =
    cond (is_filled (field_at l 1) && is_filled (field_at l 2))
    (cond (is_short (field_at l 1) && is_short (field_at l 2)) (Ok (record { input = input; states = state_pieces l; outputs = outputs })) (Err Names))
    (Err BadLine)

unfoldable pub kiss_row_line : ℕ → ℕ → List ℕ → Result KissRow Refusal
unfolding split set_of row_fields_fit is_short state_pieces
kiss_row_line i o l =
    cond (row_fields_fit i o l)
    (cond (is_short (field_at l 1) && is_short (field_at l 2))
    (Ok (record { input = pattern_of (field_at l 0); states = state_pieces l; outputs = pattern_of (field_at l 3) }))
    (Err Names))
    (Err BadLine)
