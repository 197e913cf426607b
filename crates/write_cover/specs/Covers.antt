-- The cover as it is written, and what its writer asks of a listing.
use Rattle.std.specs.Prelude.{Bool, ◌&&◌, cond, List, [], ◌∷◌, map, ℕ, ◌≤◌, leb}
use Rattle.rules.specs.Limits.{most_inputs, most_outputs}
use Rattle.rules.specs.Text.{bytes}
use Rattle.rules.specs.Cover.{counted_line, is_left_out, cover_lines}
use Rattle.rules.specs.declared.Head.{Head}
use Rattle.rules.specs.declared.Row.{Row}
use Rattle.rules.specs.declared.Listing.{Listing}
use Rattle.write_faces.specs.Faces.{row_text}
use Rattle.write_rows.specs.Rows.{kept_row}

-- the line of a row, with the dashes that it keeps; a row that is left out has none
unfoldable pub printed_text : Head → List ℕ → Row → Row → List (List ℕ)
unfolding is_left_out row_text
printed_text h bits r kept = cond (is_left_out h bits r) [] (row_text h bits kept ∷ [])

-- the lines of the rows qs, of the rows rs of a listing
unfoldable pub row_texts : Head → List ℕ → List Row → List Row → List (List ℕ)
unfolding kept_row
row_texts h bits rs qs = map (λ q. row_text h bits (kept_row rs q)) qs

-- `.i`, `.o`, `.type fd` and `.p`
unfoldable pub count_lines : ℕ → ℕ → ℕ → List (List ℕ)
count_lines i o p = counted_line (bytes ".i ") i ∷ (counted_line (bytes ".o ") o ∷ (bytes ".type fd\n" ∷ (counted_line (bytes ".p ") p ∷ [])))

-- The limits on a head that the writer leans on: inputs and bits, and bits and outputs, add up to numbers of the machine.
pub record Bounded (h : Head) : Type 0 where
  pub inputs : h.inputs ≤ most_inputs
  pub outputs : h.outputs ≤ most_outputs

unfoldable pub bounded : ℕ → ℕ → Bool
bounded i o = leb i most_inputs && leb o most_outputs

-- the cover's lines, or none beyond those limits
unfoldable pub lines_within : Listing → List ℕ → List (List ℕ)
unfolding bounded cover_lines
lines_within t bits = cond (bounded t.head.inputs t.head.outputs) (cover_lines t bits) []
