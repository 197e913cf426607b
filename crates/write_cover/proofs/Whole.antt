-- The cover's lines from their parts, as they are written, within the limits and beyond them.
use mathlib.Core.Path.{◌≡◌}
use mathlib.Core.Bool.{true, false}
use mathlib.Core.List.{List, [], ◌∷◌, ◌++◌}
use Prim.Native.Nat.{ℕ, ◌+◌}
use lib.Dec.{leb}
use lib.ListN.{length}
use borrow.Author.Tests.{leb-true, le-leb}
use Rattle.sets.proofs.Every.{and_first, and_second}
use Rattle.rules.specs.Limits.{most_inputs, most_outputs}
use Rattle.rules.specs.Text.{bytes}
use Rattle.rules.specs.Listing.{all_rows}
use Rattle.rules.specs.Cover.{printed_rows, cover_lines}
use Rattle.rules.specs.declared.Head.{Head}
use Rattle.rules.specs.declared.Listing.{Listing}
use Rattle.write_cover.specs.Covers.{row_texts, count_lines, bounded, lines_within, Bounded}
use Rattle.write_cover.proofs.RowTexts.{kept-texts}

-- ---- the whole cover

pub cover-text : (t : Listing) (bits : List ℕ) {p : ℕ} → p ≡ length (printed_rows t.head bits (all_rows t))
    → count_lines (t.head.inputs + length bits) (length bits + t.head.outputs) p ++ (row_texts t.head bits (all_rows t) (printed_rows t.head bits (all_rows t)) ++ (bytes ".e\n" ∷ []))
    ≡ cover_lines t bits
unfolding cover_lines count_lines
cover-text t bits e = rw (e, kept-texts t.head bits (all_rows t) (printed_rows t.head bits (all_rows t)))

-- ---- within the limits, and beyond them

pub bounded-head : (h : Head) → bounded h.inputs h.outputs ≡ true → Bounded h
unfolding bounded
bounded-head h e = record {
  inputs = leb-true h.inputs most_inputs (and_first (leb h.inputs most_inputs) (leb h.outputs most_outputs) e);
  outputs = leb-true h.outputs most_outputs (and_second (leb h.inputs most_inputs) (leb h.outputs most_outputs) e);
}

pub cover-bounded : (t : Listing) (bits : List ℕ) → Bounded t.head → lines_within t bits ≡ cover_lines t bits
unfolding lines_within bounded
cover-bounded t bits w = rw (le-leb t.head.inputs most_inputs w.inputs, le-leb t.head.outputs most_outputs w.outputs)

pub cover-beyond : (t : Listing) (bits : List ℕ) → bounded t.head.inputs t.head.outputs ≡ false → lines_within t bits ≡ []
unfolding lines_within
cover-beyond t bits e = rw e
