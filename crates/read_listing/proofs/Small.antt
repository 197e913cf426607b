-- The reading of a small machine: whether its first line names more states than one has, told from what that line says.
use Rattle.rules.specs.declared.Refusal.{Refusal}
use Rattle.std.specs.Prelude.{Result, Ok, Err}
use mathlib.Core.Path.{◌≡◌, refl, sym, ap, ◌∙◌}
use mathlib.Core.Bool.{Bool, true, false, ◌&&◌, cond, true≢false, false≢true}
use Rattle.std.specs.Result.{is_err}
use Rattle.read_answers.specs.Lent.{lent}
use Rattle.rules.specs.declared.Listing.{Listing}
use mathlib.Core.List.{List, [], ◌∷◌}
use Prim.Native.Nat.{ℕ, ◌+◌, ◌≤◌, ◌<◌}
use native.Mathlib.Omega.{arith}
use lib.Dec.{leb, ltb}
use lib.ListN.{length, drop}
use borrow.Author.Tests.{le-leb, lt-leb}
use Rattle.rules.specs.Limits.{most_bytes, most_small}
use Rattle.rules.specs.Text.{lf, lines_of}
use Rattle.rules.specs.Listing.{blank, Step, goes, ends, stops, line_step, read_all, checked, reading, Reading}
use Rattle.rules.specs.Least.{begins_large, small_reading}
use Rattle.rules.specs.declared.Head.{Head}
use Rattle.rules.specs.declared.Refusal.TheVariants.{Limit}
use Rattle.rules.specs.Refusals.{Verdict, refused}
use Rattle.read_pieces.proofs.Laws.{part, Cut, split-some}
use Rattle.read_listing.specs.declared.says.Said.{Said}
use Rattle.read_listing.specs.Says.{step_of, line_says, states_said, first_verdict}
use Rattle.read_listing.proofs.Saying.{says-step}

-- a step that made a listing of more states
abbrev large : Step → Bool
large x = elim x [ goes t ↦ ltb most_small t.head.states | ends ↦ false | stops r ↦ false ]

large-said : (x : Result Said Refusal) → large (step_of x blank) ≡ ltb most_small (states_said x)
unfolding states_said blank
large-said (Ok (Said.Head h)) = refl
large-said (Ok (Said.Row r)) = refl
large-said (Ok (Said.Dichotomy d)) = refl
large-said (Ok (Said.Outputs o)) = refl
large-said (Ok Said.End) = refl
large-said (Err r) = refl

large-cons : (l : List ℕ) (rest : List (List ℕ)) → 1 ≤ length rest → begins_large (l ∷ rest) ≡ large (line_step 1 blank l)
unfolding begins_large
large-cons l [] h = absurd (omega arith)
large-cons l (m ∷ ms) h = refl

-- the first line says x
pub large-line : (s : List ℕ) (r : ℕ) (h : Head) (x : Result Said Refusal) → Cut lf s 0 r → r < length s → h ≡ blank.head
    → x ≡ line_says 1 h 0 0 0 (part s 0 r) → ltb most_small (states_said x) ≡ begins_large (lines_of s)
unfolding blank
large-line s r h x c l b e =
    sym
    (ap begins_large (c.more l)
    ∙ large-cons (part s 0 r) (lines_of (drop (r + 1) s)) (split-some lf (drop (r + 1) s))
    ∙ ap large (sym (says-step 1 blank (part s 0 r)))
    ∙ ap (λ (y : Result Said Refusal). large (step_of y blank)) (sym (e ∙ ap (λ (g : Head). line_says 1 g 0 0 0 (part s 0 r)) b))
    ∙ large-said x)

-- no LF ends it
pub large-none : (s : List ℕ) (r : ℕ) → Cut lf s 0 r → length s ≤ r → false ≡ begins_large (lines_of s)
unfolding begins_large
large-none s r c h = sym (ap begins_large (c.last h))

-- ---- the whole

-- what is refused before the lines, or else x
abbrev begun : Verdict → Reading → Reading
begun (Ok _) x = x
begun (Err why) x = Err why

-- of a small machine, or of any
begun-so : (s : List ℕ) (small : Bool) → begun (first_verdict small s) (checked (read_all (lines_of s))) ≡ cond small (small_reading s) (reading s)
unfolding first_verdict small_reading reading
begun-so s small = go (leb (length s) most_bytes) small (begins_large (lines_of s))
  where
    go : (b small g : Bool)
        → begun (cond b (cond small (cond g (refused Limit 1) (Ok tt)) (Ok tt)) (refused Limit 0)) (checked (read_all (lines_of s)))
        ≡ cond small (cond (b && g) (refused Limit 1) (cond b (checked (read_all (lines_of s))) (refused Limit 0))) (cond b (checked (read_all (lines_of s))) (refused Limit 0))
    go true true true = refl
    go true true false = refl
    go true false g = refl
    go false true g = refl
    go false false g = refl

module _ (s : List ℕ) (small : Bool) where
  whole : {v : Verdict} → v ≡ first_verdict small s → begun v (checked (read_all (lines_of s))) ≡ cond small (small_reading s) (reading s)
  whole e = ap (λ (v : Verdict). begun v (checked (read_all (lines_of s)))) e ∙ begun-so s small

  pub begun-refused : {v : Verdict} {t : Listing} → is_err v ≡ true → t ≡ blank → v ≡ first_verdict small s → (v, t) ≡ lent (cond small (small_reading s) (reading s))
  unfolding lent
  begun-refused {v = Ok x} h b e = absurd (false≢true h)
  begun-refused {v = Err why} h b e = ap (λ (t : Listing). (Err why, t)) b ∙ ap lent (whole e)

  pub begun-read : {v : Verdict} → is_err v ≡ false → v ≡ first_verdict small s → checked (read_all (lines_of s)) ≡ cond small (small_reading s) (reading s)
  begun-read {v = Ok x} h e = whole e
  begun-read {v = Err why} h e = absurd (true≢false h)

  -- the verdict, one test after the other
  pub first-long : most_bytes < length s → refused Limit 0 ≡ first_verdict small s
  unfolding first_verdict
  first-long h = rw (lt-leb (length s) most_bytes h)

  pub first_any : length s ≤ most_bytes → small ≡ false → (Ok tt) ≡ first_verdict small s
  unfolding first_verdict
  first_any h e = rw (le-leb (length s) most_bytes h, e)

  pub first_small : {b : Bool} → length s ≤ most_bytes → small ≡ true → begins_large (lines_of s) ≡ b → cond b (refused Limit 1) (Ok tt) ≡ first_verdict small s
  unfolding first_verdict
  first_small h e g = rw (le-leb (length s) most_bytes h, e, g)
