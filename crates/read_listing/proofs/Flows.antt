-- A listing that is a flow table: what its reader answers, under its head, is what the rules read, and it has no rows to clash.
use Rattle.std.specs.Prelude.{Result, Ok, Err}
use mathlib.Core.Path.{◌≡◌, refl, sym, ap, ◌∙◌, subst}
use mathlib.Core.Bool.{Bool, true, false, ◌&&◌, cond, false≢true}
use mathlib.Core.List.{List, [], ◌∷◌}
use Prim.Native.Nat.{ℕ, min, ◌+◌, ◌-◌, ◌≤◌, ◌<◌}
use native.Mathlib.Omega.{arith}
use lib.ListN.{length, get_or, take, drop}
use lib.Dec.{leb}
use borrow.Author.Tests.{leb-true, leb-false}
use Rattle.sets.specs.Sets.{states_from}
use Rattle.rules.specs.Limits.{most_dichotomies}
use Rattle.rules.specs.Text.{bytes, same, split, lf, lines_of, mark_of, mark_is}
use Rattle.rules.specs.Lines.{head_line}
use Rattle.rules.specs.FlowTable.{flow_asks, stability}
use Rattle.rules.specs.FlowLines.{flow_head, column_count, columns_of, FlowStep, flow_goes, flow_ends, flow_stops, flow_placed}
use Rattle.rules.specs.Listing.{blank, with_head, with_dichotomy, with_dichotomies, nothing, conflict, checked, read_lines, read_all, flow_step, flow_gives, flow_read, flow_ended, flow_unended, flow_lines, Reading}
use Rattle.rules.specs.declared.Head.{Head}
use Rattle.rules.specs.declared.Listing.{Listing}
use Rattle.rules.specs.declared.Requirement.{Requirement}
use Rattle.rules.specs.declared.Refusal.{Refusal}
use Rattle.rules.specs.declared.Refusal.TheVariants.{BadLine, Limit, Place}
use Rattle.rules.specs.Refusals.{Verdict, refused}
use Rattle.rules.proofs.SoundLines.{head-sound}
use Rattle.rules.proofs.Sound.{flow-head, flow_after, flow-on, flow-none, flow-last, read_by, all_two, all_one}
use Rattle.read_pieces.proofs.Laws.{part, Cut, split-some, piece-first}
use Rattle.read_pieces.proofs.Places.{rest_all}
use Rattle.read_flow.specs.Flows.{flow_of, flow_table}
use Rattle.read_flow.proofs.Ends.{table-read}
use Rattle.read_listing.specs.Says.{flow_listing, reading_of}
use Rattle.rules.specs.declared.Refused.{Refused}

-- ---- what is read

-- what is read is the head with the dichotomies, which has no row to clash
abbrev Stands : Head → Reading → Type 0
Stands h r = reading_of h (flow_of r) ≡ r

refused-stands : (h : Head) (why : Refused) → Stands h (Err why)
unfolding reading_of
refused-stands h why = refl

-- the dichotomies alone are added
only-asked : (ds : List Requirement) (t : Listing)
    → with_dichotomies ds t
    ≡ record {
      head = t.head;
      rows = t.rows;
      table = t.table;
      dichotomies = (with_dichotomies ds t).dichotomies;
      asked = (with_dichotomies ds t).asked;
      said = t.said;
      given = t.given;
    }
unfolding with_dichotomies
only-asked [] t = refl
only-asked (d ∷ ds) t = only-asked ds (with_dichotomy d t)

accepted-stands : (h : Head) (ds : List Requirement) → Stands h (Ok (with_dichotomies ds (with_head h blank)))
unfolding reading_of flow_listing blank
accepted-stands h ds = ap Ok (sym (only-asked ds (with_head h blank)))

-- ---- the lines

gives-stands : (h : Head) (ds : List Requirement) → Stands h (flow_gives h ds)
unfolding flow_gives
gives-stands h ds = go (leb (length ds) most_dichotomies)
  where
    go : (b : Bool) → Stands h (cond b (Ok (with_dichotomies ds (with_head h blank))) (refused Limit 0))
    go true = accepted-stands h ds
    go false = refused-stands h (record { refusal = Limit; line = 0 })

table-stands : (h : Head) (columns : List (List ℕ)) → Stands h (flow_read h columns)
unfolding flow_read
table-stands h columns = go (stability columns (states_from 0 h.states))
  where
    go : (v : Verdict) → Stands h (elim v as (λ _. Reading) [ Ok _ ↦ flow_gives h (flow_asks columns) | Err why ↦ Err why ])
    go (Ok _) = gives-stands h (flow_asks columns)
    go (Err why) = refused-stands h why

ended-stands : (k : ℕ) (h : Head) (all rest : List (List ℕ)) → Stands h (flow_ended k h all rest)
unfolding flow_ended
ended-stands k h all rest = go (nothing rest)
  where
    go : (b : Bool) → Stands h (cond b (flow_read h (columns_of h.states (column_count all) (take h.states all))) (refused Place (k + 1)))
    go true = table-stands h (columns_of h.states (column_count all) (take h.states all))
    go false = refused-stands h (record { refusal = Place; line = (k + 1) })

unended-stands : (k : ℕ) (h : Head) (l : List ℕ) → Stands h (flow_unended k h.states l)
unfolding flow_unended
unended-stands k h [] = refused-stands h (record { refusal = Place; line = k })
unended-stands k h (x ∷ xs) = go (flow_placed (mark_is (mark_of (x ∷ xs))) k h.states)
  where
    go : (b : Bool) → Stands h (cond b (refused BadLine k) (refused Place k))
    go true = refused-stands h (record { refusal = BadLine; line = k })
    go false = refused-stands h (record { refusal = Place; line = k })

lines-stand : (k : ℕ) (h : Head) (all ls : List (List ℕ)) → Stands h (flow_lines k h all ls)
unfolding flow_after
lines-stand k h all [] = rw (flow-none k h all) (refused-stands h (record { refusal = Place; line = k }))
lines-stand k h all (l ∷ []) = rw (flow-last k h all l) (unended-stands k h l)
lines-stand k h all (l ∷ (m ∷ ms)) = rw (flow-on k h all l m ms) (go (flow_step k h.states (column_count all) l) (lines-stand (k + 1) h all (m ∷ ms)))
  where
    go : (x : FlowStep) → Stands h (flow_lines (k + 1) h all (m ∷ ms)) → Stands h (flow_after k h all (m ∷ ms) x)
    go flow_goes g = g
    go flow_ends g = ended-stands k h all (m ∷ ms)
    go (flow_stops r) g = refused-stands h (record { refusal = r; line = k })

-- ---- all lines

-- one line without LF
all-last : (s : List ℕ) (r : ℕ) → Cut lf s 0 r → length s ≤ r → read_all (lines_of s) ≡ read_lines 1 blank (lines_of s)
all-last s r c h = ap read_all (c.last h) ∙ all_one (part s 0 r) ∙ ap (read_lines 1 blank) (sym (c.last h))

-- nothing begins no flow table
none-begins : (l : List ℕ) (h : Head) → flow_head l [] ≡ Ok h → ⊥
unfolding flow_head mark_of split same
none-begins l h = go (same (mark_of l) (bytes "MC"))
  where
    told : Result Head Refusal → Bool
    told (Ok h) = true
    told (Err r) = false

    go : (a : Bool) → cond (a && false) (head_line false l) (Err Place) ≡ Ok h → ⊥
    go true e = false≢true (ap told e)
    go false e = false≢true (ap told e)

-- a line that LF ends, and what stands behind it
module _ (s : List ℕ) (r q : ℕ) (c : Cut lf s 0 r) (d : Cut lf s (r + 1) q) (h : r < length s) where
  two-lines : (x : Result Head Refusal) → flow_head (part s 0 r) (part s (r + 1) q) ≡ x → read_all (lines_of s) ≡ read_by x (part s 0 r) (lines_of (drop (r + 1) s))
  two-lines x e = ap read_all (c.more h) ∙ first (lines_of (drop (r + 1) s)) (split-some lf (drop (r + 1) s)) (piece-first lf s (r + 1) q d)
    where
      first : (rest : List (List ℕ)) → 1 ≤ length rest → get_or rest 0 [] ≡ part s (r + 1) q → read_all (part s 0 r ∷ rest) ≡ read_by x (part s 0 r) rest
      first [] l p = absurd (omega arith)
      first (m ∷ ms) l p = all_two (part s 0 r) m ms ∙ ap (λ (y : Result Head Refusal). read_by y (part s 0 r) (m ∷ ms)) (ap (flow_head (part s 0 r)) p ∙ e)

  -- an ordinary listing
  two-ordinary : {e : Refusal} → flow_head (part s 0 r) (part s (r + 1) q) ≡ Err e → read_all (lines_of s) ≡ read_lines 1 blank (lines_of s)
  unfolding read_by
  two-ordinary {e} f = two-lines (Err e) f ∙ ap (read_lines 1 blank) (sym (c.more h))

  -- a flow table
  two-flow : (g : Head) → flow_head (part s 0 r) (part s (r + 1) q) ≡ Ok g
      → read_all (lines_of s) ≡ reading_of g (flow_of (flow_table g (part s (r + 1) (length s))))
  unfolding read_by
  two-flow g f =
      let sound = head-sound false (part s 0 r) g (flow-head (part s 0 r) (part s (r + 1) q) g f) in
      let rest = lines_of (drop (r + 1) s) in
      two-lines (Ok g) f ∙ sym (lines-stand 2 g rest rest)
      ∙ ap (λ (x : Reading). reading_of g (flow_of x)) (sym (ap (flow_table g) (rest_all s (r + 1)) ∙ table-read g (drop (r + 1) s) sound.some-states sound.few-states))

-- the first line, and what stands behind it, if anything does
module _ (s : List ℕ) (r a q : ℕ) (c : Cut lf s 0 r) (d : Cut lf s a q) (at : a ≡ min (r + 1) (length s)) where
  -- LF ends it, or nothing stands behind it
  next-or-none : {C : Type 0} → (a ≡ r + 1 → r < length s → C) → (length s ≤ r → part s a q ≡ [] → C) → C
  next-or-none {C} more last = go (leb (length s) r) refl
    where
      go : (b : Bool) → leb (length s) r ≡ b → C
      go true e =
          let l : length s ≤ r = leb-true (length s) r e in
          let z : q - a ≡ 0 = omega (arith, d.to, at) in
          last l (ap (λ (n : ℕ). take n (drop a s)) z)
      go false e =
          let l : r < length s = leb-false (length s) r e in
          more (omega (arith, at)) l

  pub all-ordinary : {e : Refusal} → flow_head (part s 0 r) (part s a q) ≡ Err e → read_all (lines_of s) ≡ read_lines 1 blank (lines_of s)
  all-ordinary {e} f =
      next-or-none
      (λ n l. two-ordinary s r q c (subst (λ (x : ℕ). Cut lf s x q) n d) l (subst (λ (x : ℕ). flow_head (part s 0 r) (part s x q) ≡ Err e) n f))
      (λ l n. all-last s r c l)

  pub all-flow : (g : Head) → flow_head (part s 0 r) (part s a q) ≡ Ok g
      → read_all (lines_of s) ≡ reading_of g (flow_of (flow_table g (part s a (length s))))
  all-flow g f =
      next-or-none
      (λ n l.
      subst (λ (x : ℕ). read_all (lines_of s) ≡ reading_of g (flow_of (flow_table g (part s x (length s))))) (sym n)
      (two-flow s r q c (subst (λ (x : ℕ). Cut lf s x q) n d) l g (subst (λ (x : ℕ). flow_head (part s 0 r) (part s x q) ≡ Ok g) n f)))
      (λ l n. absurd (none-begins (part s 0 r) g (sym (ap (flow_head (part s 0 r)) n) ∙ f)))
