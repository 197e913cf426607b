-- A listing's text as it is written, and what its writer asks of a head.
use Rattle.std.specs.Prelude.{Bool, ◌&&◌, cond, List, [], ◌∷◌, ◌++◌, map, ℕ, ◌≤◌, leb}
use Rattle.rules.specs.Limits.{most_states, most_inputs, most_outputs}
use Rattle.rules.specs.Text.{lf, space, decimal}
use Rattle.rules.specs.ListingText.{set_field, fifth_text, head_text, row_text, listing_lines}
use Rattle.rules.specs.declared.Head.{Head}
use Rattle.rules.specs.declared.Row.{Row}
use Rattle.rules.specs.declared.Listing.{Listing}

-- the width, 1 behind it where every row is kept, and LF
unfoldable pub width_field : ℕ → Bool → List ℕ
unfolding fifth_text
width_field w keeps = decimal w ++ (fifth_text keeps ++ (lf ∷ []))

-- a set of n states, and the space that ends its field
unfoldable pub set_part : ℕ → ℕ → List ℕ
set_part n m = set_field n m ++ (space ∷ [])

-- the head's line, and a row's
unfoldable pub head_line_text : Head → List ℕ
head_line_text h = head_text h ++ (lf ∷ [])

unfoldable pub row_line_text : Head → Row → List ℕ
row_line_text h r = row_text h r ++ (lf ∷ [])

-- the lines of rows
unfoldable pub row_lines : Head → List Row → List (List ℕ)
unfolding row_line_text
row_lines h rs = map (row_line_text h) rs

-- The limits on a head that the writer leans on: a row's line fits the bytes that it is written to.
pub record Narrow (h : Head) : Type 0 where
  pub states : h.states ≤ most_states
  pub inputs : h.inputs ≤ most_inputs
  pub outputs : h.outputs ≤ most_outputs

unfoldable pub narrow : ℕ → ℕ → ℕ → Bool
narrow n i o = leb n most_states && (leb i most_inputs && leb o most_outputs)

-- the listing's lines, or none beyond those limits
unfoldable pub lines_within : Listing → List (List ℕ)
unfolding narrow listing_lines
lines_within t = cond (narrow t.head.states t.head.inputs t.head.outputs) (listing_lines t) []
