-- How long a row of the cover is.
use mathlib.Core.Path.{◌≡◌, ◌∙◌}
use mathlib.Core.List.{List}
use Prim.Native.Nat.{ℕ, ◌+◌}
use native.Mathlib.Omega.{arith}
use lib.ListN.{length, length-append, length-map}
use Rattle.sets.specs.Sets.{states_from}
use Rattle.rules.specs.Cover.{face_at, next_code}
use Rattle.rules.specs.declared.Head.{Head}
use Rattle.rules.specs.declared.Row.{Row}
use Rattle.rules.specs.declared.Pattern.{Pattern}
use Rattle.rules.proofs.Most.{states-length}
use Rattle.write_faces.specs.Faces.{pattern_at, pattern_text, face_text, next_text, row_text}
use Rattle.write_faces.proofs.Rows.{row-parts}

pattern-length : (p : Pattern) (n : ℕ) → length (pattern_text p n) ≡ n
unfolding pattern_text
pattern-length p n = length-map (states_from 0 n) (pattern_at p) ∙ states-length 0 n

face-length : (n : ℕ) (bits : List ℕ) (g : ℕ) → length (face_text n bits g) ≡ length bits
unfolding face_text
face-length n bits g = length-map bits (face_at n g)

next-length : (bits : List ℕ) (next : ℕ) → length (next_text bits next) ≡ length bits
unfolding next_text
next-length bits next = length-map (next_code bits next) _ ∙ length-map bits _

pub row-length : (h : Head) (bits : List ℕ) (r : Row) → length (row_text h bits r) ≡ h.inputs + length bits + length bits + h.outputs + 2
row-length h bits r =
    rw (← row-parts h bits r)
    (simp (length-append, pattern-length, face-length, next-length) (omega arith))
