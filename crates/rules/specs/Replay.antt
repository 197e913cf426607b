-- 02, request 08: a recorded run is replayed. The symbolic machine and the encoded cover are stepped side by side, each on its own, over the lines of a
-- second text.
use Rattle.rules.specs.declared.StateNumber.{StateNumber}
use Rattle.std.specs.Prelude.{Bool, true, false, ◌&&◌, cond, List, [], ◌∷◌, ◌++◌, map, ℕ, ◌+◌, leb, ltb, eqb, length, Result, Option, Ok, Err, Some, None}
use Rattle.std.specs.Int.Count.{count_trailing_zeros}
use Rattle.sets.specs.Sets.{states_from}
use Rattle.rules.specs.Limits.{most_inputs, most_states, most_steps}
use Rattle.rules.specs.Text.{bytes, digit, lf, space, dash, nought, one, same, split, lines_of, fields_of, field_at, mark_of, sized, set_of, numeral_of, decimal}
use Rattle.rules.specs.Listing.{reading}
use Rattle.rules.specs.Code.{Coding, coded, uncoded, coding, code_of}
use Rattle.rules.specs.Report.{code_text, joined_lines}
use Rattle.rules.specs.Cover.{vector}
use Rattle.rules.specs.Meaning.{Meaning, on, free, off, output_means, next_means, cover_says}
use Rattle.rules.specs.Answers.{Reply, says, refuses, cover_of, on_reading, printed}
use Rattle.rules.specs.declared.Head.{Head}
use Rattle.rules.specs.declared.Listing.{Listing}
use Rattle.rules.specs.declared.Refusal.{Refusal}
use Rattle.rules.specs.declared.Refusal.TheVariants.{BadLine, Limit, NoNext}

-- ---- the lines of the second text

-- two fields, the first of them this mark
unfoldable pub marked : List ℕ → List ℕ → Bool
unfolding split mark_of same
marked mark l = eqb (length (fields_of l)) 2 && same (mark_of l) mark

-- `SS state`, its number written as in `MC`: a state that is not below n is 1
unfoldable pub start_read : Head → Option ℕ → Result StateNumber Refusal
start_read h (Some s) = cond (ltb s h.states) (Ok (record { 0 = s })) (Err BadLine)
start_read h None = Err BadLine

unfoldable pub start_line : Head → List ℕ → Result StateNumber Refusal
unfolding split marked numeral_of start_read
start_line h l = cond (marked (bytes "SS") l) (start_read h (numeral_of (field_at l 1))) (Err BadLine)

-- `IN vector`, i of `0 1`, behind so many others: 2 for the 10,001st
unfoldable pub vector_line : Head → ℕ → List ℕ → Result ℕ Refusal
unfolding split marked sized set_of
vector_line h done l =
    cond (marked (bytes "IN") l && sized most_inputs h.inputs nought one one (field_at l 1))
    (cond (leb most_steps done) (Err Limit) (Ok (set_of one (field_at l 1))))
    (Err BadLine)

-- ---- the symbolic machine, at the input vector x and the state s

-- the state of a set of one
unfoldable pub state_in : ℕ → ℕ
unfolding count_trailing_zeros
state_in m = count_trailing_zeros most_states m

-- the state after the step, where the firing rows name one
unfoldable pub state_after : Listing → ℕ → ℕ → ℕ
unfolding state_in next_means
state_after t x s = state_in (next_means t x s)

-- an output as it is printed: a free one as a dash
unfoldable pub output_byte : Meaning → ℕ
output_byte on = one
output_byte free = dash
output_byte off = nought

-- the outputs of the state before the step
unfoldable pub outputs_text : Listing → ℕ → ℕ → List ℕ
unfolding output_byte output_means states_from
outputs_text t x s = map (λ j. output_byte (output_means t x s j)) (states_from 0 t.head.outputs)

-- ---- the encoded cover, by its lines, at the input vector x and the present code

-- the code after the step: a bit of it is 1 where a firing line says 1 of it
unfoldable pub code_after : List (List ℕ) → Head → ℕ → List ℕ → List ℕ
unfolding cover_says states_from
code_after ls h x code = map (λ k. digit (cover_says ls (vector h.inputs x ++ code) k one)) (states_from 0 (length code))

-- ---- the run

-- what is shown of a step: the state and the code after it, and the outputs
pub record Shown : Type 0 where
  pub state : ℕ
  pub code : List ℕ
  pub outputs : List ℕ

-- a run: its steps one behind the other, and then its end, or a refusal with its line
pub data Run : Type 0 where
  steps : Shown → Run → Run
  over : Run
  stopped : Refusal → ℕ → Run

-- the step from the state s and a code, of the listing t and the lines of its cover
unfoldable pub shown : Listing → List (List ℕ) → ℕ → ℕ → List ℕ → Shown
unfolding state_after code_after outputs_text
shown t ls x s code = record { state = state_after t x s; code = code_after ls t.head x code; outputs = outputs_text t x s }

-- what stands behind the last LF, as line k: nothing, or a line without LF
unfoldable pub run_end : ℕ → List ℕ → Run
run_end k [] = over
run_end k (x ∷ xs) = stopped BadLine k

-- The lines behind `SS` and so many steps, from the state s and a code. Where no firing row names a next state the run ends with 14.
unfoldable pub run_from : Listing → List (List ℕ) → ℕ → ℕ → List ℕ → List (List ℕ) → Run
unfolding run_end vector_line next_means state_after code_after shown
run_from t ls done s code [] = over
run_from t ls done s code (l ∷ []) = run_end (done + 2) l
run_from t ls done s code (l ∷ (m ∷ ms)) =
    elim (vector_line t.head done l) [
      | Err r ↦ stopped r (done + 2)
      | Ok x ↦ elim (eqb (next_means t x s) 0) [
        | true ↦ stopped NoNext (done + 2)
        | false ↦ steps (shown t ls x s code) (run_from t ls (done + 1) (state_after t x s) (code_after ls t.head x code) (m ∷ ms))
      ]
    ]

-- The whole: a first line that is not `SS`, or is missing, is 1. The encoded cover starts at the code of the state that `SS` names.
unfoldable pub run_of : Listing → List ℕ → List (List ℕ) → List (List ℕ) → Run
unfolding start_line run_from
run_of t bits ls [] = stopped BadLine 1
run_of t bits ls (l ∷ []) = stopped BadLine 1
run_of t bits ls (l ∷ (m ∷ ms)) =
    elim (start_line t.head l) [
      | Err r ↦ stopped r 1
      | Ok s ↦ run_from t ls 0 s.0 (code_of bits s.0) (m ∷ ms)
    ]

-- ---- what is printed

-- `ST state code outputs`
unfoldable pub step_line : Shown → List ℕ
unfolding decimal code_text
step_line p = bytes "ST " ++ (decimal p.state ++ (space ∷ (code_text p.code ++ (space ∷ (p.outputs ++ (lf ∷ []))))))

-- a line for each step, and the refusal last
unfoldable pub run_lines : Run → List (List ℕ)
unfolding step_line printed
run_lines (steps p rest) = step_line p ∷ run_lines rest
run_lines over = []
run_lines (stopped r k) = printed (refuses r k) ∷ []

unfoldable pub replay : Listing → List ℕ → List ℕ → List ℕ → List ℕ
unfolding split run_of run_lines joined_lines
replay t bits text run = joined_lines (run_lines (run_of t bits (lines_of text) (lines_of run)))

-- 7 and 9 as for the cover, whose text is then the encoded machine
unfoldable pub replay_of : Listing → Coding → List ℕ → Reply
unfolding cover_of replay
replay_of t (coded c) run = elim (cover_of t (coded c)) [ says text ↦ says (replay t c.bits text run) | refuses r k ↦ refuses r k ]
replay_of t (uncoded r) run = refuses r 0

unfoldable pub replay_reply : List ℕ → List ℕ → Reply
unfolding reading replay_of coding
replay_reply listing run = on_reading (reading listing) (λ t. replay_of t (coding t) run)
