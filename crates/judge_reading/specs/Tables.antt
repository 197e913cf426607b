-- The rows of a cover in the tables, line by line.
use Rattle.std.specs.Prelude.{Bool, ◌&&◌, cond, List, [], ◌∷◌, ℕ, ◌+◌, min, ltb, eqb, take, Ok, Err}
use Rattle.rules.specs.Limits.{most_states, most_checked}
use Rattle.rules.specs.CheckTexts.{cover_line}
use Rattle.rules.specs.declared.CoverHeads.{CoverHeads}
use Rattle.judge_search.specs.Rows.{listing_rows}
use Rattle.judge_rows.specs.Rows.{line_laid}
use Rattle.judge_reading.specs.declared.Reader.{Reader}

-- the line is a row, one of those that have a place, of a cover that fits
unfoldable pub is_laid : Reader → CoverHeads → CoverHeads → Bool
is_laid q h g = ltb h.rows g.rows && (ltb h.rows most_checked && (eqb h.inputs q.taken && eqb h.outputs q.given))

-- behind the rows of the listing
unfoldable pub row_laid : Reader → CoverHeads → CoverHeads → List ℕ → List ℕ × List ℕ → List ℕ × List ℕ
unfolding is_laid line_laid
row_laid q h g l t = cond (is_laid q h g) (line_laid q.inputs (take (min q.states most_states) q.codes.table) q.codes.width (listing_rows + h.rows) l t) t

-- the lines behind those that said h, until one is refused
unfoldable pub tables_from : Reader → CoverHeads → List (List ℕ) → List ℕ × List ℕ → List ℕ × List ℕ
unfolding row_laid cover_line
tables_from q h [] t = t
tables_from q h (l ∷ []) t = t
tables_from q h (l ∷ (m ∷ ms)) t = elim (cover_line h l) [ Ok g ↦ tables_from q g (m ∷ ms) (row_laid q h g l t) | Err r ↦ t ]
