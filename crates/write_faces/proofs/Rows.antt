-- A row's pieces, one character more at the end, as they are written.
use mathlib.Core.Path.{◌≡◌, refl, ap, ap₂, ◌∙◌}
use mathlib.Core.Bool.{true, false}
use mathlib.Core.List.{List, [], ◌∷◌, ◌++◌}
use Prim.Native.Nat.{ℕ, ◌+◌}
use lib.Dec.{eqb}
use lib.Bits.{bit_and}
use Rattle.sets.specs.Sets.{has, states_from, everyone}
use Rattle.rules.specs.Text.{nought, dash, space, lf}
use Rattle.rules.specs.declared.Pattern.{Pattern}
use Rattle.rules.specs.declared.Head.{Head}
use Rattle.rules.specs.declared.Row.{Row}
use Rattle.write_pen.specs.Pen.{value_at, values_text}
use Rattle.write_pen.proofs.Growing.{bytes_one}
use Rattle.write_faces.specs.Faces.{pattern_at, pattern_text, face_text, next_text, row_text}
use Rattle.write_faces.proofs.Masks.{face-value}

-- ---- a pattern

pub pattern-dash : (p : Pattern) (j : ℕ) → eqb (has p.dashes j) 1 ≡ true → dash ≡ pattern_at p j
unfolding pattern_at
pattern-dash p j e = rw e

pub pattern-digit : (p : Pattern) (j : ℕ) {b : ℕ} → eqb (has p.dashes j) 1 ≡ false → b ≡ nought + has p.ones j → b ≡ pattern_at p j
unfolding pattern_at
pattern-digit p j e h = rw e h

pub pattern-none : (p : Pattern) → pattern_text p 0 ≡ []
unfolding pattern_text states_from
pattern-none p = refl

pub pattern-one : (p : Pattern) (j : ℕ) {b : ℕ} → b ≡ pattern_at p j → pattern_text p (j + 1) ≡ pattern_text p j ++ (b ∷ [])
unfolding pattern_text
pattern-one p j e = bytes_one (pattern_at p) j e

-- ---- the group's values in the bits are its face

pub values-face : (n g : ℕ) {m : ℕ} → m ≡ bit_and g (everyone n) → (bits : List ℕ) → values_text bits m dash ≡ face_text n bits g
unfolding values_text face_text
values-face n g e [] = refl
values-face n g {m} e (b ∷ bits) = ap₂ ◌∷◌ (ap (λ (k : ℕ). value_at k dash b) e ∙ face-value n g b) (values-face n g e bits)

-- ---- a row

pub row-parts : (h : Head) (bits : List ℕ) (r : Row)
    → pattern_text r.input h.inputs ++ (face_text h.states bits r.group ++ ((space ∷ []) ++ (next_text bits r.next ++ (pattern_text r.outputs h.outputs ++ (lf ∷ [])))))
    ≡ row_text h bits r
unfolding row_text
row-parts h bits r = refl
