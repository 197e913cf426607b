-- The line of a step, as it is written: the code by its digits, the outputs as a pattern.
use Rattle.std.specs.Prelude.{◌&&◌, cond, List, [], ◌∷◌, ℕ, leb}
use Rattle.rules.specs.Limits.{most_bits, most_outputs}
use Rattle.rules.specs.Cover.{vector}
use Rattle.rules.specs.Replay.{step_line}
use Rattle.rules.specs.declared.Pattern.{Pattern}
use Rattle.write_faces.specs.Faces.{pattern_text}

unfoldable pub step_text : ℕ → ℕ → ℕ → Pattern → ℕ → List ℕ
unfolding step_line pattern_text
step_text state w code outputs n = step_line (record { state = state; code = vector w code; outputs = pattern_text outputs n })

-- of no more bits and outputs than there can be
unfoldable pub step_within : ℕ → ℕ → ℕ → Pattern → ℕ → List (List ℕ)
unfolding step_text
step_within state w code outputs n = cond (leb w most_bits && leb n most_outputs) (step_text state w code outputs n ∷ []) []
