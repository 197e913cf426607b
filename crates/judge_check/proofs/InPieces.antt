-- A program that reads the cover in pieces finds what the check of the whole cover answers, and a listing that is too long is refused before all else.
use mathlib.Core.Path.{◌≡◌, ap}
use mathlib.Core.List.{List, []}
use Prim.Native.Nat.{ℕ, ◌<◌}
use lib.ListN.{length}
use borrow.Author.Tests.{lt-leb}
use Rattle.rules.specs.Limits.{most_bytes}
use Rattle.rules.specs.Text.{lines_of}
use Rattle.rules.specs.Listing.{reading}
use Rattle.rules.specs.Answers.{refuses}
use Rattle.rules.specs.CheckTexts.{no_heads}
use Rattle.rules.specs.Check.{check_reply}
use Rattle.rules.specs.declared.Listing.{Listing}
use Rattle.rules.specs.declared.CodeTable.{CodeTable}
use Rattle.rules.specs.declared.Refusal.TheVariants.{Limit}
use Rattle.judge_reading.proofs.InPieces.{Found, joined, in_pieces, cover-in-pieces}
use Rattle.judge_check.specs.Checked.{Beginning, reader_for, begun, listing_tables, finished, cover_checked, reply_of}
use Rattle.judge_check.specs.declared.Begun.{Begun}
use Rattle.judge_check.proofs.Replies.{reply-read}
use Rattle.judge_reading.specs.Pieces.{at_line}
use Rattle.std.specs.Prelude.{Ok}

module _ (t : Listing) (c : CodeTable) (ps : List (List ℕ)) (last : List ℕ) where
  -- what is found of the pieces
  abbrev pub piecesFound : Found (reader_for t.head c)
  piecesFound = in_pieces (reader_for t.head c) (at_line 1 no_heads) [] ps last (listing_tables t c)

  pieces-checked : finished t c piecesFound.0 piecesFound.1 ≡ cover_checked t c (lines_of (joined ps last))
  unfolding cover_checked
  pieces-checked = ap (λ (f : Found (reader_for t.head c)). finished t c f.0 f.1) (cover-in-pieces (reader_for t.head c) ps last (listing_tables t c))

-- by the listing and the codes that were read
pub pieces-reply : (s codes : List ℕ) (ps : List (List ℕ)) (last : List ℕ) {b : Begun} → ◌≡◌ {A = Beginning} (Ok b) (begun s codes)
    → reply_of (finished b.listing b.codes (piecesFound b.listing b.codes ps last).0 (piecesFound b.listing b.codes ps last).1) ≡ check_reply s codes (joined ps last)
pieces-reply s codes ps last {b} e = reply-read s codes (joined ps last) e (pieces-checked b.listing b.codes ps last)

-- whatever the codes and the cover are
pub too_long : (s codes cover : List ℕ) → most_bytes < length s → check_reply s codes cover ≡ refuses Limit 0
unfolding check_reply reading
too_long s codes cover h = rw (lt-leb (length s) most_bytes h)
