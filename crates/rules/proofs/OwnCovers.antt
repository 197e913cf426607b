-- 02, request 10: our own covers pass. Whatever the bytes of the listing, where its report and its cover are said, checking that cover by the `SC` lines of that
-- report says `OK`; and so it is with its least code.
use mathlib.Core.Path.{◌≡◌, sym, ap, subst, ◌∙◌}
use mathlib.Core.List.{List, [], ◌∷◌}
use Prim.Native.Nat.{ℕ, zero, suc, ◌+◌, ◌^◌, ◌≤◌, ◌<◌}
use native.Mathlib.Omega.{arith}
use lib.Dec.{leb}
use lib.ListN.{length, get_or, length-map}
use Rattle.rules.specs.Limits.{most_bits}
use Rattle.rules.specs.Text.{bytes, lines_of}
use Rattle.rules.specs.Listing.{rows_of, conflict, reading, Reading}
use Rattle.rules.specs.Requirements.{pairs_and_groups}
use Rattle.rules.specs.Code.{Code, coded, coding, unmet_from}
use Rattle.rules.specs.Report.{report}
use Rattle.rules.specs.Cover.{cover}
use Rattle.rules.specs.Least.{column, bits_for, least_coding, least_reply, least_cover_reply}
use Rattle.rules.specs.Answers.{Reply, says, refuses, cover_of, on_reading, report_reply, cover_reply}
use Rattle.rules.specs.CheckTexts.{cover_reading, CodesReading}
use Rattle.rules.specs.Check.{bits_of, check_text, check_cover, check_codes, check_reply}
use Rattle.rules.specs.declared.Listing.{Listing}
use Rattle.rules.specs.declared.Refusal.TheVariants.{Unmet}
use Rattle.rules.specs.Refusals.{Verdict}
use Rattle.rules.proofs.Ways.{chose-second}
use Rattle.rules.proofs.Sound.{Sound, accepted-sound}
use Rattle.rules.proofs.Sharing.{accepted-apart}
use Rattle.rules.proofs.Written.{says_same, says-not}
use Rattle.rules.proofs.Reported.{reported}
use Rattle.rules.proofs.Built.{most-few}
use Rattle.rules.proofs.SoundCode.{code-built, bits-lt}
use Rattle.rules.proofs.Columns.{column-lt}
use Rattle.rules.proofs.Least.{LeastCoded, least-coded}
use Rattle.rules.proofs.LeastReplies.{small-reading, least-reported}
use Rattle.rules.proofs.Checking.{own-ok}
use Rattle.rules.proofs.CodesBack.{codes_text, codes_said, codes-back, bits_back}
use Rattle.rules.proofs.CoverBack.{cover-back}
use Rattle.rules.proofs.CodesReported.{codes_in, codes-reported}
use Rattle.std.specs.Prelude.{Ok, Err}

-- ---- a code of a listing, and the cover in it

-- a code of at most 64 bits, each a set of the states
pub record FitCode (n : ℕ) (bits : List ℕ) : Type 0 where
  pub narrow : length bits ≤ most_bits
  pub below : (k : ℕ) → k < length bits → get_or bits k 0 < 2 ^ n

module _ (t : Listing) (c : Code) (text : List ℕ) (sound : Sound t) (apart : conflict (rows_of t) ≡ Ok tt) (fit : FitCode t.head.states c.bits) (e : cover_of t (coded c) ≡ says text) where
  written : cover t c.bits ≡ text
  unfolding cover_of
  written = says_same (cover t c.bits) text (chose-second (leb 1 (length (unmet_from 0 t.head.states c.bits (pairs_and_groups t)))) e (says-not Unmet 0 text)).1

  own-cover : check_cover t (codes_said t.head.states c.bits) (lines_of text) ≡ says (bytes "OK\n")
  unfolding check_cover
  own-cover =
      ap (λ (v : Verdict). elim v [
        | Ok _ ↦ says (check_text t (bits_of t.head.states (codes_said t.head.states c.bits)) (lines_of text))
        | Err why ↦ refuses why.refusal why.line
      ])
      (ap (λ (l : List ℕ). cover_reading (t.head.inputs + length c.bits) (length c.bits + t.head.outputs) (lines_of l)) (sym written) ∙ cover-back t c.bits sound fit.narrow)
      ∙ ap says (ap (λ (b : List ℕ). check_text t b (lines_of text)) (bits_back t.head.states c.bits fit.below) ∙ own-ok t c text sound apart e)

  -- by the lines of its code
  pub own-passes : check_codes t (lines_of (codes_text t.head.states c.bits)) (lines_of text) ≡ says (bytes "OK\n")
  unfolding check_codes
  own-passes =
      ap (λ (r : CodesReading). elim r [ Ok c ↦ check_cover t c (lines_of text) | Err why ↦ refuses why.refusal why.line ])
      (codes-back t.head.states c.bits sound.head.some-states sound.head.few-states fit.narrow)
      ∙ own-cover

-- ---- the two codes of a listing are such codes

coded-fits : (t : Listing) → Sound t → (c : Code) → coding t ≡ coded c → FitCode t.head.states c.bits
coded-fits t sound c e = record { narrow = omega (arith, (code-built t sound c e).few, most-few t sound.head.few_bits); below = bits-lt t sound c e }

columns-below : (n : ℕ) → 1 ≤ n → (columns : List ℕ) (k : ℕ) → k < length (bits_for n columns) → get_or (bits_for n columns) k 0 < 2 ^ n
columns-below n some [] k h = absurd (omega arith)
columns-below n some (v ∷ vs) zero h = column-lt n v some
columns-below n some (v ∷ vs) (suc k) h = columns-below n some vs k (omega arith)

least_fits : (t : Listing) → Sound t → (c : Code) → LeastCoded t c → FitCode t.head.states c.bits
least_fits t sound c l =
    subst (FitCode t.head.states) (sym l.bits)
    (record {
      narrow = omega (arith, length-map l.columns (column t.head.states), l.least.few);
      below = columns-below t.head.states sound.head.some-states l.columns;
    })

-- ---- from the bytes

on-accepted : {r : Reading} (f : Listing → Reply) {t : Listing} → r ≡ Ok t → on_reading r f ≡ f t
on-accepted f a = ap (λ (r : Reading). on_reading r f) a

-- a listing, the report of a code of it, and the cover in that code
passes : (s report-text cover-text : List ℕ) (c : Code) {t : Listing} → reading s ≡ Ok t → FitCode t.head.states c.bits
    → report-text ≡ report t c → cover_of t (coded c) ≡ says cover-text → check_reply s (codes_in report-text) cover-text ≡ says (bytes "OK\n")
unfolding check_reply
passes s report-text cover-text c {t} a fit is e =
    on-accepted (λ t. check_codes t (lines_of (codes_in report-text)) (lines_of cover-text)) a
    ∙ ap (λ (l : List ℕ). check_codes t (lines_of l) (lines_of cover-text)) (ap codes_in is ∙ codes-reported t c)
    ∙ own-passes t c cover-text (accepted-sound s a) (accepted-apart s a) fit e

-- the report's codes and the cover
pub own-covers-pass : (s report-text cover-text : List ℕ) → report_reply s ≡ says report-text → cover_reply s ≡ says cover-text → check_reply s (codes_in report-text) cover-text ≡ says (bytes "OK\n")
unfolding cover_reply
own-covers-pass s report-text cover-text r e =
    let w = reported s report-text r in
    let t : Listing = w.listing in
    passes s report-text cover-text w.code w.accepted (coded-fits t (accepted-sound s w.accepted) w.code w.built) w.is
    (ap (cover_of t) (sym w.built) ∙ sym (on-accepted (λ t. cover_of t (coding t)) w.accepted) ∙ e)

-- the least code and the cover in it
pub least-covers-pass : (s report-text cover-text : List ℕ) → least_reply s ≡ says report-text → least_cover_reply s ≡ says cover-text → check_reply s (codes_in report-text) cover-text ≡ says (bytes "OK\n")
unfolding least_cover_reply
least-covers-pass s report-text cover-text r e =
    let w = least-reported s report-text r in
    let t : Listing = w.listing in
    let accepted : reading s ≡ Ok t = small-reading s w.accepted in
    passes s report-text cover-text w.code accepted (least_fits t (accepted-sound s accepted) w.code (least-coded t w.code w.found)) w.is
    (ap (cover_of t) (sym w.found) ∙ sym (on-accepted (λ t. cover_of t (least_coding t)) w.accepted) ∙ e)
