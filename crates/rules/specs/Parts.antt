-- 02, request 09: long reports are printed line by line. A part of a text is the whole lines that fit a buffer, from the byte on where the part
-- before it ended; and what a C host gets that asks for a part.
use Rattle.std.specs.Prelude.{Bool, ◌||◌, cond, List, [], ◌∷◌, ◌++◌, ℕ, zero, suc, leb, eqb, length, drop, ℤ, pos}
use Rattle.rules.specs.Text.{lf}
use Rattle.rules.specs.Refusals.{minus}
use Rattle.rules.specs.Answers.{Reply, says, refuses}
use Rattle.rules.specs.declared.Refusal.TheVariants.{NoRoom}

-- a byte in front of whole lines: where there are none it has to be an LF
unfoldable pub before : ℕ → List ℕ → List ℕ
before x [] = cond (eqb x lf) (x ∷ []) []
before x (y ∷ ys) = x ∷ (y ∷ ys)

-- of the first k bytes, those up to the last LF
unfoldable pub whole_lines : ℕ → List ℕ → List ℕ
unfolding before
whole_lines zero l = []
whole_lines (suc k) [] = []
whole_lines (suc k) (x ∷ xs) = before x (whole_lines k xs)

-- the part of a text that has room, from a byte on; where that lies within a line, the rest of the line comes first
unfoldable pub part : ℕ → ℕ → List ℕ → List ℕ
unfolding whole_lines
part room from text = whole_lines room (drop from text)

-- Something is given, or nothing is left: else the buffer is too small for the next line.
unfoldable pub gets_on : ℕ → ℕ → List ℕ → Bool
unfolding part
gets_on room from text = leb 1 (length (part room from text)) || leb (length text) from

-- The part's length, 0 at the end and past it, and the part with the bytes behind it as they came. Where the next line does not fit, 10, and where the
-- text is refused, minus (number × 100,000 + line): the buffer is then as it came.
unfoldable pub answered_part : Reply → ℕ → List ℕ → ℤ × List ℕ
unfolding part gets_on minus
answered_part (says text) from out =
    let given : List ℕ = part (length out) from text in
    cond (gets_on (length out) from text) (pos (length given), given ++ drop (length given) out) (minus NoRoom 0, out)
answered_part (refuses r line) from out = (minus r line, out)

-- what a host has after so many parts: each begins where those before it ended
unfoldable pub gathered : ℕ → ℕ → List ℕ → List ℕ
unfolding part
gathered room zero text = []
gathered room (suc k) text = let have : List ℕ = gathered room k text in have ++ part room (length have) text
