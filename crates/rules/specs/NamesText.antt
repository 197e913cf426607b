-- 02, request 01: the names that a KISS2 text gives its states, as lines, by which a report or a cover can be read.
use Rattle.std.specs.Prelude.{List, [], ◌∷◌, ◌++◌, ℕ, suc}
use Rattle.rules.specs.Text.{bytes, lf, space, decimal}
use Rattle.rules.specs.Report.{joined_lines}
use Rattle.rules.specs.declared.StateNumber.{StateNumber}

-- `NM state name`
unfoldable pub name_line : StateNumber → List ℕ → List ℕ
unfolding decimal
name_line s name = bytes "NM " ++ (decimal s.0 ++ (space ∷ (name ++ (lf ∷ []))))

-- for each state, ascending; the first of these names is that of the state s
unfoldable pub name_lines_from : ℕ → List (List ℕ) → List (List ℕ)
unfolding name_line
name_lines_from s [] = []
name_lines_from s (name ∷ names) = name_line (record { 0 = s }) name ∷ name_lines_from (suc s) names

-- and the end
unfoldable pub names_lines : List (List ℕ) → List (List ℕ)
unfolding name_lines_from
names_lines names = name_lines_from 0 names ++ (bytes "EN\n" ∷ [])

unfoldable pub names_text : List (List ℕ) → List ℕ
unfolding names_lines joined_lines
names_text names = joined_lines (names_lines names)
