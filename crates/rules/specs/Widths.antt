-- 02, request 12: what a wider budget buys. For each width from 1 to the last that adds a bit: how many requirements stay unmet, and whether a cover
-- would be written.
use Rattle.std.specs.Prelude.{Bool, not, List, [], ◌∷◌, ◌++◌, map, ℕ, leb, length}
use Rattle.sets.specs.Sets.{states_from}
use Rattle.rules.specs.Limits.{most_bits}
use Rattle.rules.specs.Text.{bytes, digit, lf, space, decimal}
use Rattle.rules.specs.Listing.{reading}
use Rattle.rules.specs.Requirements.{pairs_and_groups, requirements}
use Rattle.rules.specs.Code.{build, unmet_from, unmet}
use Rattle.rules.specs.Report.{joined_lines}
use Rattle.rules.specs.Answers.{Reply, says, on_reading}
use Rattle.rules.specs.declared.Listing.{Listing}

-- the same listing with another width
abbrev pub with_width : ℕ → Listing → Listing
with_width w t = record {
  head = record { states = t.head.states; inputs = t.head.inputs; outputs = t.head.outputs; width = w; keeps = t.head.keeps; moore = t.head.moore };
  rows = t.rows;
  table = t.table;
  dichotomies = t.dichotomies;
  asked = t.asked;
  said = t.said;
  given = t.given;
}

-- the bits of its code of that width
unfoldable pub bits_of : Listing → ℕ → List ℕ
unfolding build requirements
bits_of t w = (build w t.head.states (requirements t)).bits

-- every pair and group requirement is met: a cover would be written
unfoldable pub covered : Listing → List ℕ → Bool
unfolding unmet_from pairs_and_groups
covered t bits = not (leb 1 (length (unmet_from 0 t.head.states bits (pairs_and_groups t))))

-- `WD width unmet covered`, covered being 1 or 0
unfoldable pub width_line : ℕ → ℕ → Bool → List ℕ
unfolding decimal
width_line width unmet cov = bytes "WD " ++ (decimal width ++ (space ∷ (decimal unmet ++ (space ∷ (decimal (digit cov) ++ (lf ∷ []))))))

-- a line for each width from 1 to the last that adds a bit, and the end; the listing's own width is not used
unfoldable pub width_lines : Listing → List (List ℕ)
unfolding bits_of covered width_line unmet states_from
width_lines t =
    map (λ w. width_line w (length (unmet t (bits_of t w))) (covered t (bits_of t w))) (states_from 1 (length (bits_of t most_bits)))
    ++ (bytes "EN\n" ∷ [])

unfoldable pub widths : Listing → List ℕ
unfolding width_lines joined_lines
widths t = joined_lines (width_lines t)

-- refused as the listing is, and in no other way
unfoldable pub widths_reply : List ℕ → Reply
unfolding reading widths
widths_reply s = on_reading (reading s) (λ t. says (widths t))
