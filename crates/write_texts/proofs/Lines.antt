-- Whichever text is written, it is lines.
use mathlib.Core.Bool.{Bool, true, false, cond}
use mathlib.Core.List.{List, []}
use Prim.Native.Nat.{ℕ}
use lib.ListN.{length, take}
use Rattle.rules.specs.Cover.{cover_lines}
use Rattle.rules.specs.ListingText.{listing_lines as allLines}
use Rattle.rules.specs.declared.Listing.{Listing}
use Rattle.rules.specs.declared.Encoding.{Encoding}
use Rattle.rules.proofs.CoverLines.{cover-ended}
use Rattle.rules.proofs.ListingLines.{listing-ended}
use Rattle.code_drawing.specs.Drawing.{first_families, all_families}
use Rattle.rules.proofs.Ended.{Pieces, no-piece, pieces}
use Rattle.write_report.proofs.Same.{report-pieces}
use Rattle.write_widths.proofs.Lines.{widths-pieces}
use Rattle.write_cover.specs.Covers.{bounded, lines_within}
use Rattle.write_listing.specs.Listings.{narrow, lines_within as listing_lines}
use Rattle.write_texts.specs.Texts.{text_lines}
use Rattle.write_texts.specs.declared.Text.{Text}

cover-pieces : (t : Listing) (bits : List ℕ) → Pieces (lines_within t bits)
unfolding lines_within
cover-pieces t bits = go (bounded t.head.inputs t.head.outputs)
  where
    go : (b : Bool) → Pieces (cond b (cover_lines t bits) [])
    go true = pieces (cover-ended t bits)
    go false = no-piece

listing-pieces : (t : Listing) → Pieces (listing_lines t)
unfolding listing_lines
listing-pieces t = go (narrow t.head.states t.head.inputs t.head.outputs)
  where
    go : (b : Bool) → Pieces (cond b (allLines t) [])
    go true = pieces (listing-ended t)
    go false = no-piece

pub text-pieces : (x : Text) (t : Listing) (e : Encoding) → Pieces (text_lines x t e)
unfolding text_lines
text-pieces Text.Report t e = report-pieces t.head.states (all_families t) e
text-pieces Text.Cover t e = cover-pieces t (take e.width e.bits)
text-pieces Text.Widths t e = widths-pieces (all_families t) (length (first_families t)) e
text-pieces Text.Listing t e = listing-pieces t
