-- `read_kiss::read_lines` meets its contract: the lines from number k on, behind those that made d, say what all the lines say.
use Rattle.std.specs.Prelude.{Result, Option, Ok, Some, Err}
use Rattle.rules.specs.declared.Refusal.{Refusal}
use mathlib.Core.List.{List}
use Prim.Native.Nat.{ℕ, ◌<◌, ◌-◌, ◌+◌}
use lib.ListN.{length-take, length, drop}
use Rattle.rules.specs.declared.KissHeads.{KissHeads}
use Rattle.read_names.specs.declared.Piece.{Piece}
use Rattle.read_kiss_lines.specs.declared.row.KissRow.{KissRow}
use Rattle.read_kiss_rows.specs.Drafts.{more_of, draft_in, more_in}
use Rattle.read_kiss.proofs.Fields.{Inside}
use mathlib.Core.Path.{subst, ◌≡◌, sym, ap, ◌∙◌}
use Rattle.rules.specs.Text.{lines_of}
use Rattle.rules.specs.Kiss.{no_draft, with_line, Draft as Drafted, KissStep}
use Rattle.read_pieces.proofs.Laws.{part, cut_of}
use Rattle.read_kiss_rows.specs.declared.Draft.{Draft}
use Rattle.read_kiss_rows.proofs.Meant.{Room, RoomIn, more-means}
use Rattle.read_kiss.specs.declared.says.Said.{Said}
use Rattle.read_kiss.specs.Says.{step_of, moved_row, reset_to}
use Rattle.read_kiss.specs.Walks.{Walked, Walks, held, ended_with, walked}
use Rattle.rules.specs.Refusals.{Verdict, refused}
use Rattle.read_kiss_rows.proofs.NamesMeant.{names-count}
use Rattle.read_kiss.proofs.Endings.{end_is}
use Rattle.read_kiss.proofs.Saying.{says-within, says-counts}
use Rattle.read_kiss.proofs.Steps.{behind, read-line, read-last, none_yet, none-room, heads_done, reset-done, reset-room, row_done, row_keeps, more-some, more-none, Keeps}
use native.Mathlib.Omega.{arith}
use Rattle.read_kiss.proofs.read_lines.Goals.{After-line_said-said, in-Heads, in-Reset, in-Row+in-Some}
use Rattle.rules.specs.declared.Refused.{Refused}
use Rattle.read_kiss.proofs.read_lines.Goals as goal

-- a line that says x: what stands behind it decides
all_lines : (c : After-line_said-said) {x : Result Said Refusal} → c.line_said-said.result ≡ x
    → behind (step_of (part c.args.s.now c.loop-end.at c.loop-end.end) c.loop-end.k x (draft_in c.args.s.now c.loop-end.d)) c.loop-end.k
    (draft_in c.args.s.now c.loop-end.d) (lines_of (drop (c.loop-end.end + 1) c.args.s.now))
    ≡ walked 1 no_draft (lines_of c.args.s.now)
all_lines c e =
    let l = c.loop-end in
    sym (read-line c.args.s.now l.d l.invariant.3 l.k l.at l.end l.invariant.0 (omega arith) (sym e ∙ c.line_said-said.ensures)) ∙ l.invariant.2

-- so far it has come
walks : (s : List ℕ) (d : Draft) → Room d → {w : Result Drafted Refused} → Ok (draft_in s d) ≡ w → Walked s d w
walks s d r e = record { same = e; count = names-count s d.names r.names; few = r.names.few }

-- and is at its end, unless that is refused
at-end : (s : List ℕ) (d : Draft) → Room d → (v : Verdict) {w : Result Drafted Refused} → ended_with (draft_in s d) v ≡ w → Walks s (held v d) w
at-end s d r (Ok _) e = walks s d r e
at-end s d r (Err why) e = e

-- the places that a line names fit
places-fit : (c : After-line_said-said) (p : Piece) → Inside (length (part c.args.s.now c.loop-end.at c.loop-end.end)) p
    → (c.loop-end.at + p.start < 18446744073709551616) × (c.loop-end.at + p.end < 18446744073709551616)
places-fit c p i =
    let l = c.loop-end in
    let n = length-take (l.end - l.at) (drop l.at c.args.s.now) in
    (omega (arith, i.start, n), omega (arith, i.end, n))

-- the draft behind a line that goes on
abbrev Next : After-line_said-said → Draft → Type 0
Next c u =
    (walked (c.loop-end.k + 1) (draft_in c.args.s.now u) (lines_of (drop (c.loop-end.end + 1) c.args.s.now)) ≡ walked 1 no_draft (lines_of c.args.s.now))
    × Room u
    × (u.heads.lines < c.loop-end.k + 1)

heads-next : (c : After-line_said-said) (h : KissHeads) → c.line_said-said.result ≡ Ok (Said.Heads h)
    → Next c (record { heads = h; names = c.loop-end.d.names; rows = c.loop-end.d.rows; table = c.loop-end.d.table })
heads-next c h e =
    let l = c.loop-end in
    let s = c.args.s.now in
    let r = l.invariant.3 in
    let n = says-counts _ _ _ _ (sym e ∙ c.line_said-said.ensures) in (
      ap (λ (y : KissStep). behind y l.k (draft_in s l.d) (lines_of (drop (l.end + 1) s))) (sym (heads_done s l.at l.end l.k l.d r h)) ∙ all_lines c e,
      record { names = r.names; few = r.few; table = r.table },
      omega (arith, n, l.invariant.4),
    )

reset-next : (c : After-line_said-said) (p : Piece) → c.line_said-said.result ≡ Ok (Said.Reset p) → Next c (reset_to c.loop-end.at p c.loop-end.d)
unfolding reset_to
reset-next c p e =
    let l = c.loop-end in
    let s = c.args.s.now in
    let r = l.invariant.3 in
    let w = says-within _ _ _ _ (sym e ∙ c.line_said-said.ensures) in (
      ap (λ (y : KissStep). behind y l.k (draft_in s l.d) (lines_of (drop (l.end + 1) s))) (sym (reset-done s l.at l.end l.k l.d r p w)) ∙ all_lines c e,
      reset-room s l.at l.end l.k l.d r p,
      omega (arith, l.invariant.4),
    )

row_next : (c : After-line_said-said) (row : KissRow) (u : Draft) → c.line_said-said.result ≡ Ok (Said.Row row)
    → ◌≡◌ {A = Option Draft} (Some u) (more_of c.args.s.now c.loop-end.k (moved_row c.loop-end.at row) (with_line c.loop-end.d.heads) c.loop-end.d) → Next c u
row_next c row u e q =
    let l = c.loop-end in
    let s = c.args.s.now in
    let r = l.invariant.3 in
    let w = says-within _ _ _ _ (sym e ∙ c.line_said-said.ensures) in
    let done = row_done s l.at l.end l.k l.d r row w.0 w.1 ∙ ap (more_in s) (sym q) ∙ more-some s u in
    let n : u.heads ≡ with_line l.d.heads = subst (Keeps (with_line l.d.heads)) (sym q) (row_keeps s l.k (moved_row l.at row) (with_line l.d.heads) l.d) in (
      ap (λ (y : KissStep). behind y l.k (draft_in s l.d) (lines_of (drop (l.end + 1) s))) (sym done) ∙ all_lines c e,
      subst RoomIn (sym q) (more-means s l.k (moved_row l.at row) l.d r).room,
      omega (arith, ap (λ (t : KissHeads). t.lines) n, l.invariant.4),
    )

pub loop-end-init : goal.loop-end-init
loop-end-init c =
    let s = c.args.s.now in
    let b = c.requires in (
      cut_of _ _ 0 (omega arith) c.cut-end.ensures,
      omega arith,
      ap (λ (d : Drafted). walked 1 d (lines_of s)) (none_yet s b),
      (none-room b).0,
      omega (arith, (none-room b).1),
    )

pub returns-in_default : goal.returns-in_default
returns-in_default c =
    let l = c.loop-end in
    let s = c.args.s.now in
    let why : c.unwrap_or.result ≡ c.in_default.field-0 = c.unwrap_or.ensures ∙ rw (c.err.ensures.value, c.in_default.is) in
    ap Err c.at.ensures ∙ ap (λ (r : Refusal). refused r l.k) why ∙ all_lines (goal.at.returns-in_default c).After-line_said-said c.in_default.is

pub returns-in-End : goal.returns-in-End
returns-in-End c =
    let l = c.loop-end in
    let s = c.args.s.now in
    at-end s l.d l.invariant.3 _
    (ap (ended_with (draft_in s l.d)) (c.after_end.ensures ∙ end_is l.k s (l.end + 1)) ∙ all_lines (goal.at.returns-in-End c).After-line_said-said (c.in-Ok.is ∙ ap Ok c.in-End.is))

pub with_reset-requires : goal.with_reset-requires
with_reset-requires c = places-fit (goal.at.with_reset-requires c).After-line_said-said _ (says-within _ _ _ _ (sym (c.in-Ok.is ∙ ap Ok c.in-Reset.is) ∙ c.line_said-said.ensures))

pub row_added-requires : goal.row_added-requires
row_added-requires c =
    let w = says-within _ _ _ _ (sym (c.in-Ok.is ∙ ap Ok c.in-Row.is) ∙ c.line_said-said.ensures) in
    let p = places-fit (goal.at.row_added-requires c).After-line_said-said _ w.0 in
    let n = places-fit (goal.at.row_added-requires c).After-line_said-said _ w.1 in
    (record { present_start = p.0; present_end = p.1; next_start = n.0; next_end = n.1 }, omega (arith, c.loop-end.invariant.4, c.loop-end.invariant.1))

pub returns-in_default-row_added : goal.returns-in_default-row_added
returns-in_default-row_added c =
    let l = c.loop-end in
    let s = c.args.s.now in
    let e = c.in-Ok.is ∙ ap Ok c.in-Row.is in
    let w = says-within _ _ _ _ (sym e ∙ c.line_said-said.ensures) in
    let full = row_done s l.at l.end l.k l.d l.invariant.3 _ w.0 w.1 ∙ ap (more_in s) (sym c.row_added.ensures ∙ c.in_default-row_added.is) ∙ more-none s in
    ap Err c.at-in_default-row_added.ensures
    ∙ ap (λ (y : KissStep). behind y l.k (draft_in s l.d) (lines_of (drop (l.end + 1) s))) (sym full)
    ∙ all_lines (goal.at.returns-in_default-row_added c).After-line_said-said e

pub loop-end-preserved : goal.loop-end-preserved
loop-end-preserved c =
    let l = c.loop-end in
    let d = (goal.at.loop-end-preserved c).After-line_said-said in
    let next : Next d c.match-step.d = elim c.match-step.branch [
      | in-Heads w ↦ subst (Next d) (sym w.d-is) (heads-next d _ (c.in-Ok.is ∙ ap Ok w.in-Heads.is))
      | in-Reset w ↦ subst (Next d) (sym w.d-is) (subst (Next d) (sym w.with_reset.ensures) (reset-next d _ (c.in-Ok.is ∙ ap Ok w.in-Reset.is)))
      | in-Row+in-Some w ↦ subst (Next d) (sym w.d-is) (row_next d _ _ (c.in-Ok.is ∙ ap Ok w.in-Row.is) (sym w.in-Some.is ∙ w.row_added.ensures))
    ]
    in
    (cut_of _ _ (l.end + 1) (omega arith) c.cut-end-in-loop-end.ensures, omega arith, next.0, next.1, next.2)

pub returns : goal.returns
returns c =
    let l = c.loop-end in
    let s = c.args.s.now in
    ap Err c.break_off.ensures ∙ sym (read-last s l.d l.k l.at l.end l.invariant.0 (omega arith)) ∙ l.invariant.2
