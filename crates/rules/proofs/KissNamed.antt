-- An accepted KISS2 text has a name for each state of its listing, and no name is longer than a name may be.
use mathlib.Core.Path.{◌≡◌, refl}
use mathlib.Core.Bool.{Bool, true, false, cond}
use mathlib.Core.List.{List, [], ◌∷◌}
use Prim.Native.Nat.{ℕ, ◌+◌, ◌≤◌}
use native.Mathlib.Omega.{arith}
use lib.Dec.{leb}
use lib.ListN.{length}
use Rattle.rules.specs.Limits.{most_bytes}
use Rattle.rules.specs.Text.{lines_of, mark_of}
use Rattle.rules.specs.Listing.{rows_of, nothing, conflict, or_else, judged, Reading}
use Rattle.rules.specs.KissLines.{kiss_mark}
use Rattle.rules.specs.Kiss.{Draft, no_draft, KissStep, goes, ends, stops, kiss_placed, kiss_step, listing_of, disagreement, kiss_made, kiss_ended, kiss_unended, kiss_lines, kiss_reading}
use Rattle.rules.specs.KissAnswers.{names_from, kiss_names}
use Rattle.rules.specs.NamesText.{names_text}
use Rattle.rules.specs.declared.KissHeads.{KissHeads}
use Rattle.rules.specs.declared.Listing.{Listing}
use Rattle.rules.specs.declared.Refusal.TheVariants.{BadLine, Limit, Place}
use Rattle.rules.specs.Refusals.{Verdict, refused}
use Rattle.rules.proofs.KissSound.{Short, SoundDraft, none-sound, step-sound, kiss-sound}
use Rattle.rules.proofs.NamesLines.{names-length}
use Rattle.std.specs.Prelude.{Ok, Err}
use Rattle.std.specs.Result.{IfOk}
use Rattle.std.proofs.lemmas.Result.{IfOk-at_ok}

none-short : Short []
none-short j = omega arith

abbrev Named : Reading → List (List ℕ) → Type 0
Named r ns = IfOk r (λ t. length ns ≡ t.head.states)

judged-named : (v : Verdict) (t : Listing) (ns : List (List ℕ)) → length ns ≡ t.head.states → Named (judged v t) ns
judged-named (Ok _) t ns h = h
judged-named (Err why) t ns h = tt

ended_named : (k : ℕ) (d : Draft) (rest : List (List ℕ)) → Named (kiss_ended k d rest) d.names
unfolding kiss_ended kiss_made listing_of
ended_named k d rest = go (nothing rest)
  where
    go : (b : Bool) → Named (cond b (kiss_made d.heads (length d.names) d.rows d.table) (refused Place (k + 1))) d.names
    go true = judged-named (or_else (disagreement d.heads (length d.names)) (conflict (rows_of (listing_of d.heads (length d.names) d.rows d.table)))) (listing_of d.heads (length d.names) d.rows d.table) d.names refl
    go false = tt

unended-named : (k : ℕ) (h : KissHeads) (l : List ℕ) (ns : List (List ℕ)) → Named (kiss_unended k h l) ns
unfolding kiss_unended
unended-named k h [] ns = tt
unended-named k h (x ∷ xs) ns = go (kiss_placed (kiss_mark (mark_of (x ∷ xs))) h)
  where
    go : (b : Bool) → Named (cond b (refused BadLine k) (refused Place k)) ns
    go true = tt
    go false = tt

lines-named : (k : ℕ) (d : Draft) (ls : List (List ℕ)) → Named (kiss_lines k d ls) (names_from k d ls)
unfolding kiss_lines names_from
lines-named k d [] = tt
lines-named k d (l ∷ []) = unended-named k d.heads l []
lines-named k d (l ∷ (x ∷ xs)) = go (kiss_step k d l) (λ u. lines-named (k + 1) u (x ∷ xs))
  where
    go : (y : KissStep) → ((u : Draft) → Named (kiss_lines (k + 1) u (x ∷ xs)) (names_from (k + 1) u (x ∷ xs)))
        → Named (elim y as (λ _. Reading) [ goes u ↦ kiss_lines (k + 1) u (x ∷ xs) | ends ↦ kiss_ended k d (x ∷ xs) | stops r ↦ refused r k ])
        (elim y as (λ _. List (List ℕ)) [ goes u ↦ names_from (k + 1) u (x ∷ xs) | ends ↦ d.names | stops r ↦ [] ])
    go (goes u) f = f u
    go ends f = ended_named k d (x ∷ xs)
    go (stops r) f = tt

reading-named : (s : List ℕ) → Named (kiss_reading s) (kiss_names s)
unfolding kiss_reading kiss_names
reading-named s = go (leb (length s) most_bytes)
  where
    go : (b : Bool) → Named (cond b (kiss_lines 1 no_draft (lines_of s)) (refused Limit 0)) (names_from 1 no_draft (lines_of s))
    go true = lines-named 1 no_draft (lines_of s)
    go false = tt

pub kiss-named : (s : List ℕ) {t : Listing} → kiss_reading s ≡ Ok t → length (kiss_names s) ≡ t.head.states
kiss-named s e = IfOk-at_ok (λ t. length (kiss_names s) ≡ t.head.states) e (reading-named s)

-- ---- how long

lines-short : (m k : ℕ) (d : Draft) (ls : List (List ℕ)) → k + length ls ≤ m → SoundDraft m d → Short (names_from k d ls)
unfolding names_from
lines-short m k d [] h s = none-short
lines-short m k d (l ∷ []) h s = none-short
lines-short m k d (l ∷ (x ∷ xs)) h s = go (kiss_step k d l) refl (λ u. lines-short m (k + 1) u (x ∷ xs) (omega arith))
  where
    go : (y : KissStep) → kiss_step k d l ≡ y → ((u : Draft) → SoundDraft m u → Short (names_from (k + 1) u (x ∷ xs)))
        → Short (elim y as (λ _. List (List ℕ)) [ goes u ↦ names_from (k + 1) u (x ∷ xs) | ends ↦ d.names | stops r ↦ [] ])
    go (goes u) e f = f u (step-sound m k d l u (omega arith) s e)
    go ends e f = s.short
    go (stops r) e f = none-short

pub kiss-short : (s : List ℕ) → Short (kiss_names s)
unfolding kiss_names
kiss-short s = lines-short (1 + length (lines_of s)) 1 no_draft (lines_of s) (omega arith) (none-sound (1 + length (lines_of s)))

-- so the text of the names of an accepted text is short
pub kiss-names-few : (s : List ℕ) {t : Listing} → kiss_reading s ≡ Ok t → length (names_text (kiss_names s)) ≤ 2435
kiss-names-few s e = names-length (kiss_names s) (omega (arith, kiss-named s e, (kiss-sound s e).head.few-states)) (kiss-short s)
