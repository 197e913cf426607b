-- A cover in pieces: where its whole lines come to from a place, and the rows that they lay.
use Rattle.std.specs.Prelude.{List, [], ◌∷◌, ℕ, ◌+◌, ◌-◌, min, length, Ok, Err, Result}
use Rattle.rules.specs.Text.{split, lines_of}
use Rattle.rules.specs.CheckTexts.{cover_line, cover_end}
use Rattle.rules.specs.Refusals.{Verdict, refused}
use Rattle.judge_reading.specs.Tables.{row_laid}
use Rattle.judge_reading.specs.declared.Reader.{Reader}
use Rattle.judge_reading.specs.declared.Piece.{Piece}
use Rattle.judge_reading.specs.declared.Place.{Place}
use Rattle.rules.specs.declared.CoverHeads.{CoverHeads}
use Rattle.rules.specs.declared.Refused.{Refused}

-- the longest good cover: four lines, 256 rows and `.e`
abbrev pub most_cover_lines : ℕ
most_cover_lines = 261

-- what the lines of a cover come to: a place, or the refusal of one of them
abbrev pub Reached : Type 0
Reached = Result Place Refused

-- the place before that line, with what the lines before it say
abbrev pub at_line : ℕ → CoverHeads → Reached
at_line k h = Ok (record { line = k; heads = h })

-- what stands behind the last LF
unfoldable pub last_of : List (List ℕ) → List ℕ
last_of [] = []
last_of (l ∷ []) = l
last_of (l ∷ (m ∷ ms)) = last_of (m ∷ ms)

-- one line further; no place lies further on than behind the longest good cover
unfoldable pub line_reached : Reached → List ℕ → Reached
unfolding cover_line
line_reached (Ok p) l = elim (cover_line p.heads l) [ Ok g ↦ at_line (min p.line most_cover_lines + 1) g | Err r ↦ refused r p.line ]
line_reached (Err why) l = Err why

unfoldable pub line_tables : Reader → Reached → List ℕ → List ℕ × List ℕ → List ℕ × List ℕ
unfolding cover_line row_laid
line_tables q (Ok p) l t = elim (cover_line p.heads l) [ Ok g ↦ row_laid q p.heads g l t | Err r ↦ t ]
line_tables q (Err why) l t = t

-- the whole lines: all but what stands behind the last LF
unfoldable pub whole_reached : Reached → List (List ℕ) → Reached
unfolding line_reached
whole_reached p [] = p
whole_reached p (l ∷ []) = p
whole_reached p (l ∷ (m ∷ ms)) = whole_reached (line_reached p l) (m ∷ ms)

unfoldable pub whole_tables : Reader → Reached → List (List ℕ) → List ℕ × List ℕ → List ℕ × List ℕ
unfolding line_reached line_tables
whole_tables q p [] t = t
whole_tables q p (l ∷ []) t = t
whole_tables q p (l ∷ (m ∷ ms)) t = whole_tables q (line_reached p l) (m ∷ ms) (line_tables q p l t)

-- a piece: where its whole lines come to, and where they end
unfoldable pub piece_from : Reached → List ℕ → Piece
unfolding split whole_reached last_of
piece_from p text = record { reached = whole_reached p (lines_of text); taken = length text - length (last_of (lines_of text)) }

-- the end of a cover, behind its last LF
unfoldable pub closed_by : Reader → Reached → List ℕ → Verdict
unfolding cover_end
closed_by q (Ok p) rest = cover_end q.taken q.given p.line p.heads rest
closed_by q (Err why) rest = Err why
