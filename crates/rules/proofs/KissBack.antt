-- The listing of an accepted KISS2 text, written as a text of 01's form, is read back: its report and its cover are the KISS2 text's own, byte for byte (02,
-- request 01).
use mathlib.Core.Path.{◌≡◌, refl, sym, ap, ◌∙◌}
use mathlib.Core.Bool.{Bool, true, false, cond}
use mathlib.Core.List.{List, [], ◌∷◌}
use Prim.Native.Nat.{ℕ, ◌+◌}
use lib.Dec.{leb}
use lib.ListN.{length}
use Rattle.rules.specs.Limits.{most_bytes}
use Rattle.rules.specs.Text.{lines_of, mark_of}
use Rattle.rules.specs.Listing.{rows_of, nothing, conflict, or_else, judged, Reading}
use Rattle.rules.specs.KissLines.{kiss_mark}
use Rattle.rules.specs.Kiss.{Draft, no_draft, KissStep, goes, ends, stops, kiss_placed, kiss_step, listing_of, disagreement, kiss_made, kiss_ended, kiss_unended, kiss_lines, kiss_reading}
use Rattle.rules.specs.Code.{coding}
use Rattle.rules.specs.Answers.{report_of, cover_of, on_reading, report_reply, cover_reply}
use Rattle.rules.specs.KissAnswers.{kiss_report_reply, kiss_cover_reply}
use Rattle.rules.specs.ListingText.{listing_text}
use Rattle.rules.specs.declared.KissHeads.{KissHeads}
use Rattle.rules.specs.declared.Row.{Row}
use Rattle.rules.specs.declared.Listing.{Listing}
use Rattle.rules.specs.Refusals.{Verdict, refused}
use Rattle.rules.specs.declared.Refusal.TheVariants.{BadLine, Limit, Place}
use Rattle.rules.proofs.KissSound.{kiss-sound, kiss-agrees}
use Rattle.rules.proofs.ListingBack.{Plain}
use Rattle.rules.proofs.RepliesBack.{report-back, cover-back}
use Rattle.std.specs.Prelude.{Ok, Err}
use Rattle.std.specs.Result.{IfOk}
use Rattle.std.proofs.lemmas.Result.{IfOk-at_ok}

-- ---- what a KISS2 text gives is a listing that its lines made

module _ (P : Listing → Type 0) (made : (h : KissHeads) (n rows : ℕ) (table : List Row) → P (listing_of h n rows table)) where
  judged-has : (v : Verdict) (t : Listing) → P t → IfOk (judged v t) P
  judged-has (Ok _) t h = h
  judged-has (Err why) t h = tt

  ended-has : (k : ℕ) (d : Draft) (rest : List (List ℕ)) → IfOk (kiss_ended k d rest) P
  unfolding kiss_ended kiss_made
  ended-has k d rest = go (nothing rest)
    where
      go : (b : Bool) → IfOk (cond b (kiss_made d.heads (length d.names) d.rows d.table) (refused Place (k + 1))) P
      go true =
          let t : Listing = listing_of d.heads (length d.names) d.rows d.table in
          judged-has (or_else (disagreement d.heads (length d.names)) (conflict (rows_of t))) t (made d.heads (length d.names) d.rows d.table)
      go false = tt

  unended-has : (k : ℕ) (h : KissHeads) (l : List ℕ) → IfOk (kiss_unended k h l) P
  unfolding kiss_unended
  unended-has k h [] = tt
  unended-has k h (x ∷ xs) = go (kiss_placed (kiss_mark (mark_of (x ∷ xs))) h)
    where
      go : (b : Bool) → IfOk (cond b (refused BadLine k) (refused Place k)) P
      go true = tt
      go false = tt

  lines-have : (k : ℕ) (d : Draft) (ls : List (List ℕ)) → IfOk (kiss_lines k d ls) P
  unfolding kiss_lines
  lines-have k d [] = tt
  lines-have k d (l ∷ []) = unended-has k d.heads l
  lines-have k d (l ∷ (x ∷ xs)) = go (kiss_step k d l) (λ u. lines-have (k + 1) u (x ∷ xs))
    where
      go : (y : KissStep) → ((u : Draft) → IfOk (kiss_lines (k + 1) u (x ∷ xs)) P)
          → IfOk (elim y as (λ _. Reading) [ goes u ↦ kiss_lines (k + 1) u (x ∷ xs) | ends ↦ kiss_ended k d (x ∷ xs) | stops r ↦ refused r k ]) P
      go (goes u) f = f u
      go ends f = ended-has k d (x ∷ xs)
      go (stops r) f = tt

  kiss-has : (s : List ℕ) → IfOk (kiss_reading s) P
  unfolding kiss_reading
  kiss-has s = go (leb (length s) most_bytes)
    where
      go : (b : Bool) → IfOk (cond b (kiss_lines 1 no_draft (lines_of s)) (refused Limit 0)) P
      go true = lines-have 1 no_draft (lines_of s)
      go false = tt

-- it is a Mealy machine's, and has no dichotomy
kiss-mealy : (s : List ℕ) {t : Listing} → kiss_reading s ≡ Ok t → t.head.moore ≡ false
unfolding listing_of
kiss-mealy s e = IfOk-at_ok (λ t. t.head.moore ≡ false) e (kiss-has (λ t. t.head.moore ≡ false) (λ h n rows table. refl) s)

kiss-rows-only : (s : List ℕ) {t : Listing} → kiss_reading s ≡ Ok t → t.dichotomies ≡ 0
unfolding listing_of
kiss-rows-only s e = IfOk-at_ok (λ t. t.dichotomies ≡ 0) e (kiss-has (λ t. t.dichotomies ≡ 0) (λ h n rows table. refl) s)

pub kiss-plain : (s : List ℕ) {t : Listing} → kiss_reading s ≡ Ok t → Plain t
kiss-plain s e = record { sound = kiss-sound s e; mealy = kiss-mealy s e; rows-only = kiss-rows-only s e; agreeing = kiss-agrees s e }

-- ---- so its text says the same

module _ (s : List ℕ) {t : Listing} (e : kiss_reading s ≡ Ok t) where
  pub kiss-listing-report : report_reply (listing_text t) ≡ kiss_report_reply s
  unfolding kiss_report_reply
  kiss-listing-report = report-back t (kiss-plain s e) ∙ sym (ap (λ (r : Reading). on_reading r (λ t. report_of t (coding t))) e)

  pub kiss-listing-cover : cover_reply (listing_text t) ≡ kiss_cover_reply s
  unfolding kiss_cover_reply
  kiss-listing-cover = cover-back t (kiss-plain s e) ∙ sym (ap (λ (r : Reading). on_reading r (λ t. cover_of t (coding t))) e)
