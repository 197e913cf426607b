-- A row of the cover, piece by piece, as it is written.
use Rattle.std.specs.Prelude.{cond, List, [], ◌∷◌, ◌++◌, map, ℕ, ◌+◌, eqb}
use Rattle.sets.specs.Sets.{has, states_from}
use Rattle.rules.specs.Text.{nought, dash, space, lf}
use Rattle.rules.specs.Report.{digits}
use Rattle.rules.specs.Cover.{face, next_code}
use Rattle.rules.specs.declared.Pattern.{Pattern}
use Rattle.rules.specs.declared.Head.{Head}
use Rattle.rules.specs.declared.Row.{Row}

-- character j of a pattern
unfoldable pub pattern_at : Pattern → ℕ → ℕ
pattern_at p j = cond (eqb (has p.dashes j) 1) dash (nought + has p.ones j)

-- its first n characters
unfoldable pub pattern_text : Pattern → ℕ → List ℕ
pattern_text p n = map (pattern_at p) (states_from 0 n)

-- the face of the group g of n states
unfoldable pub face_text : ℕ → List ℕ → ℕ → List ℕ
face_text n bits g = face n bits g

-- the code of the next state, zeros if the row names none
unfoldable pub next_text : List ℕ → ℕ → List ℕ
next_text bits next = digits (next_code bits next)

-- a row's line, the outputs as the row has them
unfoldable pub row_text : Head → List ℕ → Row → List ℕ
unfolding pattern_text face_text next_text
row_text h bits r =
    pattern_text r.input h.inputs
    ++ (face_text h.states bits r.group
    ++ ((space ∷ []) ++ (next_text bits r.next ++ (pattern_text r.outputs h.outputs ++ (lf ∷ [])))))
