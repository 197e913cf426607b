-- For each answer that is an enum: 01's number for each of its cases, 0 where nothing is refused, and the values that it holds.
use Rattle.rules.specs.declared.Requirement.{Requirement}
use Rattle.rules.specs.declared.Row.{Row}
use Rattle.rules.specs.declared.StateNumber.{StateNumber}
use Rattle.rules.specs.declared.BitNumber.{BitNumber}
use Rattle.rules.specs.declared.Refusal.{Refusal}
use Rattle.rules.specs.declared.Head.{Head}
use Rattle.std.specs.Prelude.{List, [], ◌∷◌, ℕ, Result, Option, Ok, Err, Some, None}
use Rattle.rules.specs.Refusals.{number, Verdict}
use Rattle.rules.specs.declared.Refusal.TheVariants.{BadLine}

pub record Numbers : Type 0 where
  pub refusal : ℕ
  pub values : List ℕ

abbrev holds : List ℕ → Numbers
holds vs = record { refusal = 0; values = vs }

-- a verdict: the refusal, and its line
unfoldable pub verdict_numbers : Verdict → Numbers
verdict_numbers (Ok tt) = holds []
verdict_numbers (Err why) = record { refusal = number why.refusal; values = why.line ∷ [] }

-- a field that is no number makes its line a bad one
unfoldable pub numeral_numbers : Option ℕ → Numbers
numeral_numbers (Some v) = holds (v ∷ [])
numeral_numbers None = record { refusal = number BadLine; values = [] }

-- a judgement: the bit's number; that none meets it refuses nothing by itself (9 is the cover's)
unfoldable pub judgement_numbers : Option BitNumber → Numbers
judgement_numbers (Some b) = holds (b.0 ∷ [])
judgement_numbers None = holds []

-- the readers of one line
unfoldable pub head_numbers_of : Result Head Refusal → Numbers
head_numbers_of (Ok h) = holds (h.states ∷ h.inputs ∷ h.outputs ∷ h.width ∷ [])
head_numbers_of (Err r) = record { refusal = number r; values = [] }

unfoldable pub row_numbers : Result Row Refusal → Numbers
row_numbers (Ok r) = holds (r.input.ones ∷ r.input.dashes ∷ r.group ∷ r.next ∷ r.outputs.ones ∷ r.outputs.dashes ∷ r.line ∷ [])
row_numbers (Err r) = record { refusal = number r; values = [] }

unfoldable pub dichotomy_numbers : Result Requirement Refusal → Numbers
dichotomy_numbers (Ok d) = holds (d.first ∷ d.second ∷ [])
dichotomy_numbers (Err r) = record { refusal = number r; values = [] }

unfoldable pub end_numbers : Result Unit Refusal → Numbers
end_numbers (Ok tt) = holds []
end_numbers (Err r) = record { refusal = number r; values = [] }

-- of a recorded run: the state, and the input vector
unfoldable pub start_numbers : Result StateNumber Refusal → Numbers
start_numbers (Ok s) = holds (s.0 ∷ [])
start_numbers (Err r) = record { refusal = number r; values = [] }

unfoldable pub vector_numbers : Result ℕ Refusal → Numbers
vector_numbers (Ok x) = holds (x ∷ [])
vector_numbers (Err r) = record { refusal = number r; values = [] }
