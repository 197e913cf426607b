-- The report as written from an encoder's answer and the families of a listing, line by line.
use Rattle.rules.specs.declared.BitNumber.{BitNumber}
use Rattle.std.specs.Prelude.{◌≡◌, List, [], ◌∷◌, ◌++◌, map, ℕ, suc, ◌+◌, ◌*◌, length, take, Option, Some, None}
use Rattle.sets.specs.Sets.{states_from}
use Rattle.rules.specs.Limits.{most_states, most_rows, most_dichotomies}
use Rattle.rules.specs.Text.{bytes}
use Rattle.rules.specs.Requirements.{judgement, requirements}
use Rattle.rules.specs.Code.{Code, unmet}
use Rattle.rules.specs.Report.{count_line, state_line, met_line, unmet_line, joined_lines}
use Rattle.rules.specs.declared.Requirement.{Requirement}
use Rattle.rules.specs.declared.Listing.{Listing}
use Rattle.rules.specs.declared.Encoding.{Encoding}
use Rattle.families.specs.Families.{requirements_in}
use Rattle.write_report.specs.declared.Listed.{Listed}

-- a line for each of the first n states
unfoldable pub state_lines : List ℕ → ℕ → List (List ℕ)
state_lines bits n = map (λ s. state_line bits (record { 0 = s })) (states_from 0 n)

-- the line of the requirement with the number k, by its judgement, in the list of those that are met or of those that are not
unfoldable pub line_for : Listed → ℕ → Option BitNumber → List ℕ
line_for Listed.Met k (Some b) = met_line (record { 0 = k }) b
line_for Listed.Met k None = []
line_for Listed.Unmet k (Some b) = []
line_for Listed.Unmet k None = unmet_line (record { 0 = k })

-- the lines of requirements, the first of which has the number k, an empty one for each that is not in the list; a set of states has 64 digits
unfoldable pub lines_of : Listed → ℕ → List ℕ → List Requirement → List (List ℕ)
unfolding line_for
lines_of l k bits [] = []
lines_of l k bits (r ∷ rs) = line_for l k (judgement 64 bits r) ∷ lines_of l (suc k) bits rs

-- of more families than a listing can have, those that it can
abbrev pub most_words : ℕ
most_words = 3 * (most_states + most_rows + most_dichotomies)

abbrev pub first_of : List ℕ → List ℕ
first_of fs = take most_words fs

-- the report of an answer on n states and on the requirements of some families, line by line
unfoldable pub encoded_lines : ℕ → List ℕ → Encoding → List (List ℕ)
encoded_lines n fs e =
    let bits : List ℕ = take e.width e.bits in
    count_line e.width e.asked e.unmet e.passes e.looks
    ∷ (state_lines bits n
    ++ (lines_of Listed.Met 0 bits (requirements_in (first_of fs))
    ++ (lines_of Listed.Unmet 0 bits (requirements_in (first_of fs))
    ++ (bytes "EN\n" ∷ []))))

-- and whole
unfoldable pub encoded_report : ℕ → List ℕ → Encoding → List ℕ
unfolding encoded_lines
encoded_report n fs e = joined_lines (encoded_lines n fs e)

-- the answer holds the code c of the listing t: its bits and its counts
pub record Holds (t : Listing) (c : Code) (e : Encoding) : Type 0 where
  pub width : e.width ≡ length c.bits
  pub bits : take e.width e.bits ≡ c.bits
  pub asked : e.asked ≡ length (requirements t)
  pub unmet : e.unmet ≡ length (unmet t c.bits)
  pub passes : e.passes ≡ c.passes
  pub looks : e.looks ≡ c.looks
