-- The lines from one on: what the next line does decides what all of them say, and what the code does with it is that.
use Rattle.rules.specs.declared.Refusal.{Refusal}
use Rattle.std.specs.Prelude.{Result, Option, Ok, Some, None, Err}
use mathlib.Core.Path.{◌≡◌, refl, sym, ap, ap₂, ◌∙◌, subst}
use mathlib.Core.Bool.{Bool, true, false}
use mathlib.Core.List.{List, [], ◌∷◌, ◌++◌}
use Prim.Native.Nat.{ℕ, ◌+◌, ◌-◌, ◌≤◌, ◌<◌}
use native.Mathlib.Omega.{arith}
use lib.ListN.{length, drop, take, length-take, length-replicate}
use lib.Dec.{leb, ltb}
use Rattle.rules.specs.Limits.{most_states, most_rows}
use Rattle.rules.specs.Text.{lf, lines_of}
use Rattle.rules.specs.Listing.{no_row}
use Rattle.rules.specs.Kiss.{Draft as Drafted, KissStep, goes, ends, stops, no_draft, with_reset, with_line, place_of, row_does, kiss_step}
use Rattle.rules.specs.declared.KissHeads.{KissHeads}
use Rattle.rules.specs.declared.Row.{Row}
use Rattle.rules.specs.Refusals.{refused}
use Rattle.rules.specs.declared.Refusal.TheVariants.{Limit}
use Rattle.read_pieces.proofs.Laws.{part, Cut, split-some}
use Rattle.read_names.specs.Names.{piece_of, names_in, no_names, with_name}
use Rattle.read_names.specs.declared.Names.{Names}
use Rattle.read_names.specs.declared.Piece.{Piece}
use Rattle.read_names.proofs.Found.{names_more}
use Rattle.read_kiss_lines.specs.declared.row.KissRow.{KissRow}
use Rattle.read_kiss_rows.specs.Drafts.{draft_in, more_in, states_of, join_of, more_by, more_of}
use Rattle.read_kiss_rows.specs.declared.Draft.{Draft}
use Rattle.read_kiss_rows.specs.declared.states.RowStates.{RowStates}
use Rattle.read_kiss_rows.proofs.Joined.{join_by}
use Rattle.read_kiss_rows.proofs.NamesMeant.{no-names-room, more_room, names-count}
use Rattle.read_kiss_rows.proofs.Meant.{Room, more-means}
use Rattle.read_kiss.specs.declared.says.Said.{Said}
use Rattle.read_kiss.specs.Says.{line_says, step_of, moved_by, moved_row, no_draft_yet, reset_to}
use Rattle.read_kiss.specs.Walks.{after_end, broken, ended_with, walked}
use Rattle.read_kiss.proofs.Fields.{Inside, piece-moved}
use Rattle.read_kiss.proofs.Saying.{says-step}
use Rattle.rules.specs.declared.Refused.{Refused}

-- ---- line by line

-- behind a line that does x, the rest of the lines
abbrev pub behind : KissStep → ℕ → Drafted → List (List ℕ) → Result Drafted Refused
behind (goes u) k d rest = walked (k + 1) u rest
behind ends k d rest = ended_with d (after_end k rest)
behind (stops r) k d rest = refused r k

read-cons : (k : ℕ) (d : Drafted) (l : List ℕ) (rest : List (List ℕ)) → 1 ≤ length rest → walked k d (l ∷ rest) ≡ behind (kiss_step k d l) k d rest
unfolding walked
read-cons k d l [] h = absurd (omega arith)
read-cons k d l (m ∷ ms) h = go (kiss_step k d l)
  where
    go : (x : KissStep) → elim x as (λ _. Result Drafted Refused) [ goes u ↦ walked (k + 1) u (m ∷ ms) | ends ↦ ended_with d (after_end k (m ∷ ms)) | stops r ↦ refused r k ] ≡ behind x k d (m ∷ ms)
    go (goes u) = refl
    go ends = refl
    go (stops r) = refl

-- the line from `at` to r, which says x
pub read-line : (s : List ℕ) (d : Draft) → Room d → (k at r : ℕ) {x : Result Said Refusal} → Cut lf s at r → r < length s → x ≡ line_says k d.heads d.names.count (part s at r)
    → walked k (draft_in s d) (lines_of (drop at s)) ≡ behind (step_of (part s at r) k x (draft_in s d)) k (draft_in s d) (lines_of (drop (r + 1) s))
unfolding draft_in
read-line s d room k at r {x} c h e =
    let same : x ≡ line_says k d.heads (length (names_in s d.names)) (part s at r) = e ∙ ap (λ (n : ℕ). line_says k d.heads n (part s at r)) (sym (names-count s d.names room.names)) in
    ap (walked k (draft_in s d)) (c.more h)
    ∙ read-cons k (draft_in s d) (part s at r) (lines_of (drop (r + 1) s)) (split-some lf (drop (r + 1) s))
    ∙ ap (λ (y : KissStep). behind y k (draft_in s d) (lines_of (drop (r + 1) s))) (sym (says-step (part s at r) k (draft_in s d)) ∙ ap (λ (y : Result Said Refusal). step_of (part s at r) k y (draft_in s d)) (sym same))

-- what stands behind the last LF
pub read-last : (s : List ℕ) (d : Draft) (k at r : ℕ) → Cut lf s at r → length s ≤ r → walked k (draft_in s d) (lines_of (drop at s)) ≡ Err (broken k d.heads (part s at (length s)))
unfolding walked draft_in
read-last s d k at r c h =
    let z : r ≡ length s = omega arith in
    ap (walked k (draft_in s d)) (c.last h) ∙ rw z

-- ---- the start

no_names_lem : (s : List ℕ) → names_in s no_names ≡ []
unfolding names_in no_names
no_names_lem s = refl

pub none_yet : (s : List ℕ) {d : Draft} → d ≡ no_draft_yet → draft_in s d ≡ no_draft
unfolding draft_in no_draft_yet no_draft
none_yet s e = rw (e, no_names_lem s)

pub none-room : {d : Draft} → d ≡ no_draft_yet → Room d × (d.heads.lines ≡ 0)
unfolding no_draft_yet
none-room e = rw e (record { names = no-names-room; few = omega arith; table = length-replicate most_rows no_row }, refl)

-- ---- what a line does to the draft that the code has

inside-less : (s : List ℕ) (at r : ℕ) (p : Piece) → Inside (length (part s at r)) p → Inside (r - at) p
inside-less s at r p i = record { start = omega (arith, i.start, length-take (r - at) (drop at s)); end = omega (arith, i.end, length-take (r - at) (drop at s)) }

no-few : no_names.count < most_states
unfolding no_names
no-few = omega arith

module _ (s : List ℕ) (at r k : ℕ) (d : Draft) (room : Room d) where
  pub heads_done : (h : KissHeads) → step_of (part s at r) k (Ok (Said.Heads h)) (draft_in s d) ≡ goes (draft_in s (record { heads = h; names = d.names; rows = d.rows; table = d.table }))
  unfolding draft_in
  heads_done h = refl

  pub reset-done : (p : Piece) → Inside (length (part s at r)) p → step_of (part s at r) k (Ok (Said.Reset p)) (draft_in s d) ≡ goes (draft_in s (reset_to at p d))
  unfolding draft_in reset_to
  reset-done p i =
      let e : names_in s (with_name no_names (moved_by at p)) ≡ piece_of (part s at r) p ∷ []
      = names_more s no_names (moved_by at p) no-names-room.places no-few ∙ ap₂ (λ (l : List (List ℕ)) (f : List ℕ). l ++ (f ∷ [])) (no_names_lem s) (piece-moved s at r p (inside-less s at r p i))
      in
      ap (λ (l : List (List ℕ)). goes (record { heads = with_reset d.heads; names = l; rows = d.rows; table = d.table })) (sym e)

  pub reset-room : (p : Piece) → Room (reset_to at p d)
  unfolding reset_to
  reset-room p = record { names = more_room no_names (moved_by at p) no-names-room no-few; few = room.few; table = room.table }

  pub row_done : (row : KissRow) → Inside (length (part s at r)) row.states.present → Inside (length (part s at r)) row.states.next
      → step_of (part s at r) k (Ok (Said.Row row)) (draft_in s d) ≡ more_in s (more_of s k (moved_row at row) (with_line d.heads) d)
  unfolding moved_row
  row_done row i j =
      sym
      ((more-means s k (moved_row at row) d room).does
      ∙ ap₂ (λ (f g : List ℕ). row_does k (draft_in s d) row.input f g row.outputs)
      (piece-moved s at r row.states.present (inside-less s at r row.states.present i))
      (piece-moved s at r row.states.next (inside-less s at r row.states.next j)))

-- ---- the headers that a row leaves

abbrev pub Keeps : KissHeads → Option Draft → Type 0
Keeps h (Some d) = d.heads ≡ h
Keeps h None = Unit {0}

join-keeps : (h : KissHeads) (ns : Names) (rows : ℕ) (table : List Row) (r : Row) → Keeps h (join_of h ns rows table r)
join-keeps h ns rows table r = go (leb most_rows (place_of r (take rows table))) (ltb (place_of r (take rows table)) rows) refl refl
  where
    go : (a b : Bool) → leb most_rows (place_of r (take rows table)) ≡ a → ltb (place_of r (take rows table)) rows ≡ b → Keeps h (join_of h ns rows table r)
    go true b e f = subst (Keeps h) (sym (join_by h ns rows table r refl e f)) tt
    go false true e f = subst (Keeps h) (sym (join_by h ns rows table r refl e f)) refl
    go false false e f = subst (Keeps h) (sym (join_by h ns rows table r refl e f)) refl

pub row_keeps : (s : List ℕ) (k : ℕ) (row : KissRow) (h : KissHeads) (d : Draft) → Keeps h (more_of s k row h d)
unfolding more_of more_by
row_keeps s k row h d = go (states_of s d.names row.states)
  where
    go : (x : Option RowStates) → Keeps h (more_by x k row h d)
    go (Some q) = join-keeps h q.names d.rows d.table _
    go None = tt

-- one row more, or 2
pub more-some : (s : List ℕ) (u : Draft) → more_in s (Some u) ≡ goes (draft_in s u)
unfolding more_in
more-some s u = refl

pub more-none : (s : List ℕ) → more_in s None ≡ stops Limit
unfolding more_in
more-none s = refl
