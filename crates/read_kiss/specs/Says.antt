-- What one line says, and what that does to a draft, with names as places in the line or in the text.
use Rattle.rules.specs.declared.Refusal.{Refusal}
use Rattle.std.specs.Prelude.{cond, List, [], ◌∷◌, ℕ, ◌+◌, ◌<◌, replicate, Result, Ok, Err}
use Rattle.rules.specs.Limits.{most_rows}
use Rattle.rules.specs.Text.{mark_of}
use Rattle.rules.specs.Listing.{no_row}
use Rattle.rules.specs.KissLines.{kiss_mark, number_line}
use Rattle.rules.specs.Kiss.{Draft as Drafted, KissStep, goes, ends, stops, no_heads, with_heads, with_reset, row_does, kiss_placed}
use Rattle.rules.specs.declared.KissHeads.{KissHeads}
use Rattle.rules.specs.declared.KissMark.{KissMark}
use Rattle.rules.specs.declared.Refusal.TheVariants.{BadLine, Place}
use Rattle.read_names.specs.Names.{piece_of, no_names, with_name}
use Rattle.read_names.specs.declared.Piece.{Piece}
use Rattle.read_kiss_lines.specs.Says.{heads_line, reset_line, kiss_end_line, kiss_row_line}
use Rattle.read_kiss_lines.specs.declared.row.KissRow.{KissRow}
use Rattle.read_kiss_rows.specs.declared.Draft.{Draft}
use Rattle.read_kiss.specs.declared.says.Said.{Said}

-- ---- what a line says

abbrev pub heads_says : Result KissHeads Refusal → Result Said Refusal
heads_says (Ok h) = Ok (Said.Heads h)
heads_says (Err r) = Err r

abbrev pub reset_says : Result Piece Refusal → Result Said Refusal
reset_says (Ok p) = Ok (Said.Reset p)
reset_says (Err r) = Err r

abbrev pub row_says : Result KissRow Refusal → Result Said Refusal
row_says (Ok row) = Ok (Said.Row row)
row_says (Err r) = Err r

abbrev pub end_says : Result Unit Refusal → Result Said Refusal
end_says (Ok tt) = Ok Said.End
end_says (Err r) = Err r

-- line k, in its place, behind so many names
unfoldable pub placed_says : KissMark → ℕ → KissHeads → ℕ → List ℕ → Result Said Refusal
unfolding heads_line number_line reset_line kiss_end_line kiss_row_line
placed_says KissMark.Inputs k h count l = heads_says (heads_line KissMark.Inputs k h (number_line l))
placed_says KissMark.Outputs k h count l = heads_says (heads_line KissMark.Outputs k h (number_line l))
placed_says KissMark.States k h count l = heads_says (heads_line KissMark.States k h (number_line l))
placed_says KissMark.Products k h count l = heads_says (heads_line KissMark.Products k h (number_line l))
placed_says KissMark.Reset k h count l = reset_says (reset_line l)
placed_says KissMark.End k h count l = end_says (kiss_end_line count l)
placed_says KissMark.Unknown k h count l = Err BadLine
placed_says KissMark.Row k h count l = row_says (kiss_row_line h.inputs h.outputs l)

unfoldable pub line_says : ℕ → KissHeads → ℕ → List ℕ → Result Said Refusal
unfolding kiss_placed placed_says kiss_mark mark_of
line_says k h count l = cond (kiss_placed (kiss_mark (mark_of l)) h) (placed_says (kiss_mark (mark_of l)) k h count l) (Err Place)

-- ---- what it does, where the line is l

abbrev pub step_of : List ℕ → ℕ → Result Said Refusal → Drafted → KissStep
step_of l k (Ok (Said.Heads h)) d = goes (with_heads h d)
step_of l k (Ok (Said.Reset p)) d = goes (record { heads = with_reset d.heads; names = piece_of l p ∷ []; rows = d.rows; table = d.table })
step_of l k (Ok (Said.Row row)) d = row_does k d row.input (piece_of l row.states.present) (piece_of l row.states.next) row.outputs
step_of l k (Ok Said.End) d = ends
step_of l k (Err r) d = stops r

-- ---- in the text

unfoldable pub moved_by : ℕ → Piece → Piece
moved_by at p = record { start = at + p.start; end = at + p.end }

unfoldable pub moved_row : ℕ → KissRow → KissRow
unfolding moved_by
moved_row at row = record { input = row.input; states = record { present = moved_by at row.states.present; next = moved_by at row.states.next }; outputs = row.outputs }

-- the places of a row's states fit
pub record Places (at : ℕ) (row : KissRow) : Type 0 where
  pub present_start : at + row.states.present.start < 18446744073709551616
  pub present_end : at + row.states.present.end < 18446744073709551616
  pub next_start : at + row.states.next.start < 18446744073709551616
  pub next_end : at + row.states.next.end < 18446744073709551616

unfoldable pub no_draft_yet : Draft
unfolding no_names
no_draft_yet = record { heads = no_heads; names = no_names; rows = 0; table = replicate most_rows no_row }

unfoldable pub reset_to : ℕ → Piece → Draft → Draft
unfolding no_names with_name moved_by
reset_to at p d = record { heads = with_reset d.heads; names = with_name no_names (moved_by at p); rows = d.rows; table = d.table }
