-- 01, "Report and cover", and 02, request 04: the report, line by line.
use Rattle.std.specs.Prelude.{List, [], ◌∷◌, ◌++◌, map, ℕ, suc, ◌+◌, length, Some, None}
use Rattle.sets.specs.Sets.{states_from}
use Rattle.rules.specs.Text.{bytes, lf, space, dash, nought, decimal}
use Rattle.rules.specs.Requirements.{requirements, judgement}
use Rattle.rules.specs.Code.{Code, unmet, code_of}
use Rattle.rules.specs.declared.Listing.{Listing}
use Rattle.rules.specs.declared.Requirement.{Requirement}
use Rattle.rules.specs.declared.StateNumber.{StateNumber}
use Rattle.rules.specs.declared.RequirementNumber.{RequirementNumber}
use Rattle.rules.specs.declared.BitNumber.{BitNumber}

-- digits as characters
abbrev pub digits : List ℕ → List ℕ
digits ds = map (λ d. nought + d) ds

-- a code of no bits prints as one dash
unfoldable pub code_text : List ℕ → List ℕ
code_text [] = dash ∷ []
code_text (d ∷ ds) = digits (d ∷ ds)

-- `CT bits asked unmet passes looks`
unfoldable pub count_line : ℕ → ℕ → ℕ → ℕ → ℕ → List ℕ
unfolding decimal
count_line bits asked unmet passes looks =
    bytes "CT " ++ (decimal bits ++ (space ∷ (decimal asked ++ (space ∷ (decimal unmet ++ (space ∷ (decimal passes ++ (space ∷ (decimal looks ++ (lf ∷ []))))))))))

-- `SC state code`
unfoldable pub state_line : List ℕ → StateNumber → List ℕ
unfolding decimal code_text
state_line bits s = bytes "SC " ++ (decimal s.0 ++ (space ∷ (code_text (code_of bits s.0) ++ (lf ∷ []))))

-- `BY number bit`
unfoldable pub met_line : RequirementNumber → BitNumber → List ℕ
unfolding decimal
met_line r b = bytes "BY " ++ (decimal r.0 ++ (space ∷ (decimal b.0 ++ (lf ∷ []))))

-- `UN number`
unfoldable pub unmet_line : RequirementNumber → List ℕ
unfolding decimal
unmet_line r = bytes "UN " ++ (decimal r.0 ++ (lf ∷ []))

-- lines, one behind the other
unfoldable pub joined_lines : List (List ℕ) → List ℕ
joined_lines [] = []
joined_lines (l ∷ ls) = l ++ joined_lines ls

-- `BY number bit` for each requirement that is met, ascending; the first of the list has the number k
unfoldable pub met_lines : ℕ → ℕ → List ℕ → List Requirement → List (List ℕ)
unfolding judgement met_line
met_lines k n bits [] = []
met_lines k n bits (r ∷ rs) =
    let rest = met_lines (suc k) n bits rs in elim (judgement n bits r) [ Some b ↦ met_line (record { 0 = k }) b ∷ rest | None ↦ rest ]

-- the counts, a line for each state, one for each requirement that is met, one for each that is not, and the end
unfoldable pub report_lines : Listing → Code → List (List ℕ)
unfolding count_line state_line met_lines unmet_line states_from unmet requirements
report_lines t c =
    let un : List ℕ = unmet t c.bits in
    count_line (length c.bits) (length (requirements t)) (length un) c.passes c.looks
    ∷ (map (λ s. state_line c.bits (record { 0 = s })) (states_from 0 t.head.states)
    ++ (met_lines 0 t.head.states c.bits (requirements t)
    ++ (map (λ r. unmet_line (record { 0 = r })) un
    ++ (bytes "EN\n" ∷ []))))

unfoldable pub report : Listing → Code → List ℕ
unfolding report_lines joined_lines
report t c = joined_lines (report_lines t c)
