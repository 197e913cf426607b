-- The listing's lines from their parts, as they are written, within the limits and beyond them.
use mathlib.Core.Path.{◌≡◌, refl}
use mathlib.Core.Bool.{true, false, ◌&&◌}
use mathlib.Core.List.{List, [], ◌∷◌, ◌++◌, map-append}
use lib.Dec.{leb}
use borrow.Author.Tests.{leb-true, le-leb}
use Rattle.sets.proofs.Every.{and_first, and_second}
use Rattle.rules.specs.Limits.{most_states, most_inputs, most_outputs}
use Rattle.rules.specs.Text.{bytes}
use Rattle.rules.specs.Listing.{rows_of}
use Rattle.rules.specs.ListingText.{listing_lines}
use Rattle.rules.specs.declared.Head.{Head}
use Rattle.rules.specs.declared.Row.{Row}
use Rattle.rules.specs.declared.Listing.{Listing}
use Rattle.rules.proofs.Sound.{Sound}
use Rattle.write_listing.specs.Listings.{head_line_text, row_line_text, row_lines, Narrow, narrow, lines_within}

-- ---- lines of rows

pub rows_none : (h : Head) → row_lines h [] ≡ []
unfolding row_lines
rows_none h = refl

pub rows_more : (h : Head) (rs : List Row) (r : Row) → row_lines h (rs ++ (r ∷ [])) ≡ row_lines h rs ++ (row_line_text h r ∷ [])
unfolding row_lines
rows_more h rs r = map-append (row_line_text h) rs (r ∷ [])

-- ---- the whole

pub listing-parts : (t : Listing) → head_line_text t.head ∷ (row_lines t.head (rows_of t) ++ (bytes "EN\n" ∷ [])) ≡ listing_lines t
unfolding listing_lines head_line_text row_lines row_line_text
listing-parts t = refl

-- ---- within the limits, and beyond them

pub narrow-head : (h : Head) → narrow h.states h.inputs h.outputs ≡ true → Narrow h
unfolding narrow
narrow-head h e =
    let n = leb h.states most_states in
    let i = leb h.inputs most_inputs in
    let o = leb h.outputs most_outputs in
    record {
      states = leb-true h.states most_states (and_first n (i && o) e);
      inputs = leb-true h.inputs most_inputs (and_first i o (and_second n (i && o) e));
      outputs = leb-true h.outputs most_outputs (and_second i o (and_second n (i && o) e));
    }

pub lines-narrow : (t : Listing) → Narrow t.head → lines_within t ≡ listing_lines t
unfolding lines_within narrow
lines-narrow t w = rw (le-leb t.head.states most_states w.states, le-leb t.head.inputs most_inputs w.inputs, le-leb t.head.outputs most_outputs w.outputs)

-- so of a listing that a reader gives every line is written
pub lines-sound : (t : Listing) → Sound t → lines_within t ≡ listing_lines t
lines-sound t s = lines-narrow t (record { states = s.head.few-states; inputs = s.head.few-inputs; outputs = s.head.few-outputs })

pub lines-beyond : (t : Listing) → narrow t.head.states t.head.inputs t.head.outputs ≡ false → lines_within t ≡ []
unfolding lines_within
lines-beyond t e = rw e
