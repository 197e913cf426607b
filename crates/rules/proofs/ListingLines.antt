-- The lines of a listing's text: each ends in LF and has no other, so the text parts into them, and each of them into its fields.
use mathlib.Core.Path.{◌≡◌, refl, ap, ◌∙◌}
use mathlib.Core.Bool.{Bool, true, false, cond}
use mathlib.Core.List.{List, [], ◌∷◌, ◌++◌, map, append-nil}
use Prim.Native.Nat.{ℕ, ◌<◌}
use native.Mathlib.Omega.{arith}
use Rattle.rules.specs.Text.{bytes, lf, space, split, lines_of, fields_of, decimal}
use Rattle.rules.specs.Listing.{rows_of}
use Rattle.rules.specs.Report.{joined_lines}
use Rattle.rules.specs.ListingText.{pattern_field, set_field, fifth_text, head_text, row_text, listing_lines, listing_text}
use Rattle.rules.specs.declared.Head.{Head}
use Rattle.rules.specs.declared.Row.{Row}
use Rattle.rules.specs.declared.Listing.{Listing}
use Rattle.rules.proofs.Fields.{Without, none, more, without-append, split-last, split-part}
use Rattle.rules.proofs.Decimal.{decimal-without}
use Rattle.rules.proofs.Ended.{Ended, last, ended-behind, AllEnded, no_line, line, ended-append, ended-map, lines-first}
use Rattle.rules.proofs.CoverLines.{rows-first}
use Rattle.rules.proofs.WrittenFields.{set-without, pattern-without}

-- ---- no LF within a line

-- a mark of two letters
mark-without : (q a b : ℕ) → q < a → q < b → Without q (a ∷ (b ∷ []))
mark-without q a b h k = more {x = a} (λ e. omega arith) (more {x = b} (λ e. omega arith) none)

space-behind : {l : List ℕ} → Without lf l → Without lf (space ∷ l)
space-behind h = more {x = space} (λ e. omega arith) h

number_behind : (v : ℕ) {l : List ℕ} → Without lf l → Without lf (decimal v ++ l)
number_behind v h = without-append (decimal-without lf (omega arith) v) h

pub head-without : (h : Head) → Without lf (head_text h)
unfolding head_text fifth_text
head-without h =
    without-append (mark-without lf 77 67 (omega arith) (omega arith))
    (space-behind (number_behind h.states (space-behind (number_behind h.inputs (space-behind (number_behind h.outputs (space-behind (number_behind h.width (fifth h.keeps)))))))))
  where
    fifth : (k : Bool) → Without lf (fifth_text k)
    fifth true = space-behind (more (λ e. omega arith) none)
    fifth false = none

pub row-without : (h : Head) (r : Row) → Without lf (row_text h r)
unfolding row_text
row-without h r =
    without-append (mark-without lf 80 84 (omega arith) (omega arith))
    (space-behind (without-append (pattern-without lf h.inputs _ (omega arith))
    (space-behind (without-append (set-without lf h.states _ (omega arith))
    (space-behind (without-append (set-without lf h.states _ (omega arith)) (space-behind (pattern-without lf h.outputs _ (omega arith)))))))))

end-ended : Ended (bytes "EN\n")
end-ended = ended-behind (mark-without lf 69 78 (omega arith) (omega arith)) last

pub listing-ended : (t : Listing) → AllEnded (listing_lines t)
unfolding listing_lines
listing-ended t =
    line (ended-behind (head-without t.head) last)
    (ended-append (ended-map (λ r. row_text t.head r ++ (lf ∷ [])) (λ r. ended-behind (row-without t.head r) last) (rows_of t)) (line end-ended no_line))

-- ---- so the text parts into them

last_line : lines_of (joined_lines (bytes "EN\n" ∷ [])) ≡ bytes "EN" ∷ ([] ∷ [])
unfolding split joined_lines
last_line = refl

-- the lines without their LF, and nothing behind the last
abbrev pub bodies : Head → List Row → List (List ℕ)
bodies h rs = map (row_text h) rs ++ (bytes "EN" ∷ ([] ∷ []))

pub listing-lines : (t : Listing) → lines_of (listing_text t) ≡ head_text t.head ∷ bodies t.head (rows_of t)
unfolding listing_text listing_lines joined_lines
listing-lines t =
    lines-first (head_text h ++ (lf ∷ [])) (joined_lines (map (λ r. row_text h r ++ (lf ∷ [])) (rows_of t) ++ (bytes "EN\n" ∷ []))) (head_text h) refl (head-without h)
    ∙ ap {B = List (List ℕ)} (λ ls. head_text h ∷ ls)
    (rows-first (row_text h) (row-without h) (rows_of t) (bytes "EN\n" ∷ []) ∙ ap (λ (ls : List (List ℕ)). map (row_text h) (rows_of t) ++ ls) last_line)
  where
    h : Head
    h = t.head

-- ---- and a line into its fields

-- a field in front of others
field-first : (a b : List ℕ) {fs : List (List ℕ)} → Without space a → fields_of b ≡ fs → fields_of (a ++ (space ∷ b)) ≡ a ∷ fs
field-first a b h e = split-part space a b h ∙ ap {B = List (List ℕ)} (λ ls. a ∷ ls) e

number-first : (v : ℕ) (b : List ℕ) {fs : List (List ℕ)} → fields_of b ≡ fs → fields_of (decimal v ++ (space ∷ b)) ≡ decimal v ∷ fs
number-first v b e = field-first (decimal v) b (decimal-without space (omega arith) v) e

last-fields : (w : ℕ) (k : Bool) → fields_of (decimal w ++ fifth_text k) ≡ decimal w ∷ cond k (bytes "1" ∷ []) []
unfolding fifth_text
last-fields w true = number-first w (bytes "1") (split-last space (bytes "1") (more {x = 49} (λ e. omega arith) none))
last-fields w false = ap fields_of (append-nil (decimal w)) ∙ split-last space (decimal w) (decimal-without space (omega arith) w)

pub head-fields : (h : Head) → fields_of (head_text h)
    ≡ bytes "MC" ∷ (decimal h.states ∷ (decimal h.inputs ∷ (decimal h.outputs ∷ (decimal h.width ∷ cond h.keeps (bytes "1" ∷ []) []))))
unfolding head_text
head-fields h =
    field-first (bytes "MC") _ (mark-without space 77 67 (omega arith) (omega arith))
    (number-first h.states _ (number-first h.inputs _ (number-first h.outputs _ (last-fields h.width h.keeps))))

pub row-fields : (h : Head) (r : Row) → fields_of (row_text h r)
    ≡ bytes "PT" ∷ (pattern_field h.inputs r.input ∷ (set_field h.states r.group ∷ (set_field h.states r.next ∷ (pattern_field h.outputs r.outputs ∷ []))))
unfolding row_text
row-fields h r =
    field-first (bytes "PT") _ (mark-without space 80 84 (omega arith) (omega arith))
    (field-first (pattern_field h.inputs r.input) _ (pattern-without space h.inputs r.input (omega arith))
    (field-first (set_field h.states r.group) _ (set-without space h.states r.group (omega arith))
    (field-first (set_field h.states r.next) _ (set-without space h.states r.next (omega arith))
    (split-last space (pattern_field h.outputs r.outputs) (pattern-without space h.outputs r.outputs (omega arith))))))
