-- What all the lines say is made of how far they come, and the names are those that they have come to.
use mathlib.Core.Path.{◌≡◌, refl, sym, ap, ◌∙◌, subst}
use mathlib.Core.Bool.{Bool, true, false, cond}
use mathlib.Core.List.{List, [], ◌∷◌}
use Prim.Native.Nat.{ℕ, ◌+◌}
use native.Mathlib.Omega.{arith}
use lib.ListN.{length}
use Rattle.rules.specs.Text.{lines_of, mark_of}
use Rattle.rules.specs.Listing.{nothing, Reading}
use Rattle.rules.specs.KissLines.{kiss_mark}
use Rattle.rules.specs.Kiss.{Draft as Drafted, no_draft, KissStep, goes, ends, stops, kiss_placed, kiss_step, kiss_made, kiss_ended, kiss_unended, kiss_lines}
use Rattle.rules.specs.KissAnswers.{names_from, kiss_names}
use Rattle.rules.specs.declared.KissHeads.{KissHeads}
use Rattle.rules.specs.Refusals.{Verdict, refused}
use Rattle.rules.specs.declared.Refusal.{Refusal}
use Rattle.rules.specs.declared.Refusal.TheVariants.{BadLine, Place}
use Rattle.read_kiss_rows.specs.Drafts.{draft_in}
use Rattle.read_kiss_rows.specs.declared.Draft.{Draft}
use Rattle.read_names.specs.Names.{names_in}
use Rattle.read_kiss.specs.Walks.{Walked, after_end, broken, ended_with, walked}
use Rattle.rules.specs.declared.Refused.{Refused}
use Rattle.std.specs.Prelude.{Ok, Err, Result}
use Rattle.std.specs.Result.{IfOk}

abbrev made : Result Drafted Refused → Reading
made (Ok d) = kiss_made d.heads (length d.names) d.rows d.table
made (Err why) = Err why

ended-made : (k : ℕ) (d : Drafted) (rest : List (List ℕ)) → kiss_ended k d rest ≡ made (ended_with d (after_end k rest))
unfolding kiss_ended after_end
ended-made k d rest = go (nothing rest)
  where
    go : (b : Bool) → cond b (kiss_made d.heads (length d.names) d.rows d.table) (refused Place (k + 1)) ≡ made (ended_with d (cond {A = Verdict} b (Ok tt) (refused Place (k + 1))))
    go true = refl
    go false = refl

unended-made : (k : ℕ) (d : Drafted) (l : List ℕ) → kiss_unended k d.heads l ≡ Err (broken k d.heads l)
unfolding kiss_unended broken
unended-made k d [] = refl
unended-made k d (x ∷ xs) = go (kiss_placed (kiss_mark (mark_of (x ∷ xs))) d.heads)
  where
    go : (b : Bool) → cond {A = Reading} b (refused BadLine k) (refused Place k) ≡ Err (cond b (record { refusal = BadLine; line = k }) (record { refusal = Place; line = k }))
    go true = refl
    go false = refl

lines-made : (k : ℕ) (d : Drafted) (ls : List (List ℕ)) → kiss_lines k d ls ≡ made (walked k d ls)
unfolding kiss_lines walked
lines-made k d [] = refl
lines-made k d (l ∷ []) = unended-made k d l
lines-made k d (l ∷ (m ∷ ms)) = go (kiss_step k d l) (λ u. lines-made (k + 1) u (m ∷ ms))
  where
    go : (x : KissStep) → ((u : Drafted) → kiss_lines (k + 1) u (m ∷ ms) ≡ made (walked (k + 1) u (m ∷ ms)))
        → elim x as (λ _. Reading) [ goes u ↦ kiss_lines (k + 1) u (m ∷ ms) | ends ↦ kiss_ended k d (m ∷ ms) | stops r ↦ refused r k ]
        ≡ made (elim x as (λ _. Result Drafted Refused) [ goes u ↦ walked (k + 1) u (m ∷ ms) | ends ↦ ended_with d (after_end k (m ∷ ms)) | stops r ↦ refused r k ])
    go (goes u) f = f u
    go ends f = ended-made k d (m ∷ ms)
    go (stops r) f = refl

-- ---- the names

-- those that a text has come to that was walked to its end
abbrev NamesOf : Result Drafted Refused → List (List ℕ) → Type 0
NamesOf w ns = IfOk w (λ d. ns ≡ d.names)

ended-names : (d : Drafted) (v : Verdict) → NamesOf (ended_with d v) d.names
ended-names d (Ok _) = refl
ended-names d (Err why) = tt

names-walked : (k : ℕ) (d : Drafted) (ls : List (List ℕ)) → NamesOf (walked k d ls) (names_from k d ls)
unfolding walked names_from
names-walked k d [] = tt
names-walked k d (l ∷ []) = tt
names-walked k d (l ∷ (m ∷ ms)) = go (kiss_step k d l) (λ u. names-walked (k + 1) u (m ∷ ms))
  where
    go : (x : KissStep) → ((u : Drafted) → NamesOf (walked (k + 1) u (m ∷ ms)) (names_from (k + 1) u (m ∷ ms)))
        → NamesOf (elim x as (λ _. Result Drafted Refused) [ goes u ↦ walked (k + 1) u (m ∷ ms) | ends ↦ ended_with d (after_end k (m ∷ ms)) | stops r ↦ refused r k ])
        (elim x as (λ _. List (List ℕ)) [ goes u ↦ names_from (k + 1) u (m ∷ ms) | ends ↦ d.names | stops r ↦ [] ])
    go (goes u) f = f u
    go ends f = ended-names d (after_end k (m ∷ ms))
    go (stops r) f = tt

-- ---- as the code has come

module _ (s : List ℕ) where
  abbrev lines : Result Drafted Refused
  lines = walked 1 no_draft (lines_of s)

  whole : {w : Result Drafted Refused} → w ≡ lines → made w ≡ kiss_lines 1 no_draft (lines_of s)
  whole e = ap made e ∙ sym (lines-made 1 no_draft (lines_of s))

  pub walk-refused : {why : Refused} → Err why ≡ lines → Err why ≡ kiss_lines 1 no_draft (lines_of s)
  walk-refused e = whole e

  pub walk-made : (d : Draft) → Walked s d lines → kiss_made d.heads d.names.count d.rows d.table ≡ kiss_lines 1 no_draft (lines_of s)
  unfolding draft_in
  walk-made d w = ap (λ (n : ℕ). kiss_made d.heads n d.rows d.table) (sym w.count) ∙ whole w.same

  pub walk-names : (d : Draft) → Walked s d lines → names_in s d.names ≡ kiss_names s
  unfolding draft_in kiss_names
  walk-names d w = sym (subst (λ (x : Result Drafted Refused). NamesOf x (names_from 1 no_draft (lines_of s))) (sym w.same) (names-walked 1 no_draft (lines_of s)))
