-- The lines of a listing piece by piece, as they are written.
use mathlib.Core.Path.{◌≡◌, refl}
use mathlib.Core.Bool.{Bool, true, false}
use mathlib.Core.List.{[], ◌∷◌, ◌++◌, append_assoc}
use Prim.Native.Nat.{ℕ}
use Rattle.rules.specs.Text.{bytes, space, lf, decimal}
use Rattle.rules.specs.ListingText.{pattern_field, set_field, fifth_text, head_text, row_text}
use Rattle.rules.specs.declared.Head.{Head}
use Rattle.rules.specs.declared.Row.{Row}
use Rattle.write_pen.specs.Pen.{digits_text}
use Rattle.write_faces.specs.Faces.{pattern_at, pattern_text}
use Rattle.write_listing.specs.Listings.{width_field, set_part, head_line_text, row_line_text}

pub width-kept : (w : ℕ) (keeps : Bool) → keeps ≡ true → (decimal w ++ (space ∷ [])) ++ bytes "1\n" ≡ width_field w keeps
unfolding width_field fifth_text
width-kept w keeps e = rw e (append_assoc (decimal w) (space ∷ []) (bytes "1\n"))

pub width-plain : (w : ℕ) (keeps : Bool) → keeps ≡ false → decimal w ++ (lf ∷ []) ≡ width_field w keeps
unfolding width_field fifth_text
width-plain w keeps e = rw e

pub set-part : (n m : ℕ) → digits_text m n ++ (space ∷ []) ≡ set_part n m
unfolding digits_text set_part set_field
set-part n m = refl

pub head-fields : (h : Head)
    → bytes "MC " ++ ((decimal h.states ++ (space ∷ [])) ++ ((decimal h.inputs ++ (space ∷ [])) ++ ((decimal h.outputs ++ (space ∷ [])) ++ width_field h.width h.keeps)))
    ≡ head_line_text h
unfolding head_line_text head_text width_field
head-fields h = simp append_assoc

pub row-fields : (h : Head) (r : Row)
    → bytes "PT " ++ (pattern_text r.input h.inputs ++ ((space ∷ []) ++ (set_part h.states r.group ++ (set_part h.states r.next ++ (pattern_text r.outputs h.outputs ++ (lf ∷ []))))))
    ≡ row_line_text h r
unfolding row_line_text row_text pattern_text pattern_at pattern_field set_part
row-fields h r = simp append_assoc
