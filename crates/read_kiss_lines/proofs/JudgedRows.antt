-- A row's line, judged one test after the other.
use Rattle.std.specs.Prelude.{Err}
use mathlib.Core.Path.{◌≡◌, refl}
use mathlib.Core.Bool.{Bool, true, false, ◌&&◌, cond}
use mathlib.Core.List.{List}
use Prim.Native.Nat.{ℕ}
use lib.ListN.{length}
use lib.Dec.{eqb}
use Rattle.rules.specs.Limits.{most_inputs, most_outputs}
use Rattle.rules.specs.Text.{nought, one, dash, fields_of, field_at, sized}
use Rattle.rules.specs.KissLines.{is_filled, row_fields_fit}
use Rattle.rules.specs.Kiss.{pattern_of}
use Rattle.rules.specs.declared.Refusal.TheVariants.{BadLine}
use Rattle.read_kiss_lines.specs.Says.{row_read, kiss_row_line}
use Rattle.read_fields.proofs.Sets.{pattern-sized}

-- a row by its fields, whose two states are judged behind its input and its outputs
pub row-parts : (i o : ℕ) (l : List ℕ)
    → kiss_row_line i o l
    ≡ cond (eqb (length (fields_of l)) 4)
    (cond (sized most_inputs i nought one dash (field_at l 0))
    (cond (sized most_outputs o nought one dash (field_at l 3)) (row_read l (pattern_of (field_at l 0)) (pattern_of (field_at l 3))) (Err BadLine))
    (Err BadLine))
    (Err BadLine)
unfolding kiss_row_line row_fields_fit row_read
row-parts i o l =
    go (eqb (length (fields_of l)) 4) (sized most_inputs i nought one dash (field_at l 0)) (sized most_outputs o nought one dash (field_at l 3)) (is_filled (field_at l 1))
    (is_filled (field_at l 2)) _ _
  where
    go : (a b c f g : Bool) {A : Type 0} (u v : A) → cond (a && (b && (f && (g && c)))) u v ≡ cond a (cond b (cond c (cond (f && g) u v) v) v) v
    go true true true true true u v = refl
    go true true true true false u v = refl
    go true true true false g u v = refl
    go true true false true true u v = refl
    go true true false true false u v = refl
    go true true false false g u v = refl
    go true false c f g u v = refl
    go false b c f g u v = refl

pub ruleset parts = (row-parts, pattern-sized)
