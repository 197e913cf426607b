-- What each width buys, as written from an encoder's answer and the families of a listing.
use Rattle.std.specs.Prelude.{not, List, [], ◌∷◌, ◌++◌, map, ℕ, length, take}
use Rattle.sets.specs.Sets.{states_from}
use Rattle.rules.specs.Text.{bytes}
use Rattle.rules.specs.Code.{unmet_from}
use Rattle.rules.specs.Report.{joined_lines}
use Rattle.rules.specs.Widths.{width_line}
use Rattle.rules.specs.declared.Encoding.{Encoding}
use Rattle.families.specs.Families.{requirements_in}
use Rattle.code_judging.specs.Judging.{some_unmet}
use Rattle.write_report.specs.Report.{first_of}

-- the line of one width: of so many of the bits, how many of the requirements of the families fs they leave unmet, and whether they meet
-- all those of gs, the pairs' and the groups'
unfoldable pub line_of : List ℕ → List ℕ → List ℕ → ℕ → List ℕ
line_of fs gs bits w = width_line w (length (unmet_from 0 64 (take w bits) (requirements_in fs))) (not (some_unmet (take w bits) (requirements_in gs)))

-- a line for each width from 1 to k
unfoldable pub lines_to : List ℕ → List ℕ → List ℕ → ℕ → List (List ℕ)
lines_to fs gs bits k = map (line_of fs gs bits) (states_from 1 k)

-- and the end
unfoldable pub encoded_lines : List ℕ → ℕ → Encoding → List (List ℕ)
encoded_lines fs first e =
    let bits : List ℕ = take e.width e.bits in
    lines_to (first_of fs) (take first (first_of fs)) bits (length bits) ++ (bytes "EN\n" ∷ [])

unfoldable pub encoded_widths : List ℕ → ℕ → Encoding → List ℕ
unfolding encoded_lines
encoded_widths fs first e = joined_lines (encoded_lines fs first e)
