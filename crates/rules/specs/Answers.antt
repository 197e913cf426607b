-- 01, "Report and cover" and "Refusal numbers": what each call answers, as a program prints it and as a C host gets it.
use Rattle.std.specs.Prelude.{cond, List, [], ◌∷◌, ◌++◌, ℕ, leb, length, drop, ℤ, pos, Ok, Err}
use Rattle.rules.specs.Refusals.{number, minus}
use Rattle.rules.specs.Text.{bytes, space, lf, decimal}
use Rattle.rules.specs.Listing.{reading, Reading}
use Rattle.rules.specs.Requirements.{pairs_and_groups}
use Rattle.rules.specs.Code.{Coding, coded, uncoded, coding, unmet_from}
use Rattle.rules.specs.Report.{report}
use Rattle.rules.specs.Cover.{cover}
use Rattle.rules.specs.declared.Listing.{Listing}
use Rattle.rules.specs.declared.Refusal.{Refusal}
use Rattle.rules.specs.declared.Refusal.TheVariants.{Unmet, NoRoom}

-- a text, or the refusal and its line
pub data Reply : Type 0 where
  says : List ℕ → Reply
  refuses : Refusal → ℕ → Reply

-- ---- what is said of a listing

abbrev pub report_of : Listing → Coding → Reply
unfolding report
report_of t (coded c) = says (report t c)
report_of t (uncoded r) = refuses r 0

-- 9: a pair or group requirement is unmet
unfoldable pub cover_of : Listing → Coding → Reply
unfolding cover unmet_from pairs_and_groups
cover_of t (coded c) = cond (leb 1 (length (unmet_from 0 t.head.states c.bits (pairs_and_groups t)))) (refuses Unmet 0) (says (cover t c.bits))
cover_of t (uncoded r) = refuses r 0

-- a listing's own refusal comes first
abbrev pub on_reading : Reading → (Listing → Reply) → Reply
on_reading (Ok t) f = f t
on_reading (Err why) f = refuses why.refusal why.line

unfoldable pub report_reply : List ℕ → Reply
unfolding reading report coding
report_reply s = on_reading (reading s) (λ t. report_of t (coding t))

unfoldable pub cover_reply : List ℕ → Reply
unfolding reading cover_of coding
cover_reply s = on_reading (reading s) (λ t. cover_of t (coding t))

-- ---- a program prints the text, or `NO number line`

unfoldable pub printed : Reply → List ℕ
unfolding decimal
printed (says text) = text
printed (refuses r line) = bytes "NO " ++ (decimal (number r) ++ (space ∷ (decimal line ++ (lf ∷ []))))

-- ---- a C host gives an output buffer, and gets a number; with it, what the buffer then holds

-- The text's length, and the text with the bytes behind it as they came. Where it does not fit, 10, and where it is refused, minus
-- (number × 100,000 + line): the buffer is then as it came.
unfoldable pub answered : Reply → List ℕ → ℤ × List ℕ
unfolding minus
answered (says text) out = cond (leb (length text) (length out)) (pos (length text), text ++ drop (length text) out) (minus NoRoom 0, out)
answered (refuses r line) out = (minus r line, out)
