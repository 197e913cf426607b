-- `read_listing::read_lines` meets its contract: the lines from number k on, behind those that made t, say what all the lines say.
use Rattle.std.specs.Prelude.{Result, Ok, Err}
use Rattle.rules.specs.declared.Refusal.{Refusal}
use Rattle.rules.specs.declared.StateOutputs.{StateOutputs}
use mathlib.Core.Path.{◌≡◌, sym, ap, ◌∙◌, subst}
use Prim.Native.Nat.{◌+◌, ◌<◌}
use native.Mathlib.Omega.{arith}
use lib.ListN.{drop}
use borrow.Author.Rules.{rules}
use Rattle.rules.specs.Limits.{most_states, most_rows, most_dichotomies}
use Rattle.rules.specs.Text.{lines_of}
use Rattle.rules.specs.Listing.{blank, read_lines, Reading}
use Rattle.rules.specs.declared.Listing.{Listing}
use Rattle.read_pieces.proofs.Laws.{cut_of}
use Rattle.read_listing.specs.declared.says.Said.{Said}
use Rattle.read_listing.specs.Says.{step_of}
use Rattle.read_listing.proofs.Room.{Few, blank-few, said-room, outputs-done}
use Rattle.read_listing.proofs.Ends.{end-at}
use Rattle.read_listing.proofs.Steps.{behind, read-line, read-last}
use Rattle.read_listing.proofs.read_lines.Goals.{After-line_said-said, In-Dichotomy, In-Row, in-Head, in-Row, in-Dichotomy, in-Outputs}
use Rattle.rules.specs.Refusals.{refused}
use Rattle.read_listing.proofs.read_lines.Goals as goal

-- a line that says x: what stands behind it decides
all_lines : (c : After-line_said-said) {x : Result Said Refusal} → c.line_said-said.result ≡ x
    → behind (step_of x c.loop-end.t) c.loop-end.k c.loop-end.t
    (lines_of (drop (c.loop-end.end + 1) c.args.s.now))
    ≡ read_lines 1 blank (lines_of c.args.s.now)
all_lines c e =
    let l = c.loop-end in
    sym (read-line l.k l.t _ l.at l.end l.invariant.0 (omega arith) (sym e ∙ c.line_said-said.ensures)) ∙ l.invariant.2

-- a row has room
row_room : (c : In-Row) → c.loop-end.t.rows < most_rows
row_room c =
    let l = c.loop-end in
    said-room l.k l.t _ (sym c.line_said-said.ensures ∙ (c.in-Ok.is ∙ ap Ok c.in-Row.is))

-- and so has a dichotomy
dichotomy-room : (c : In-Dichotomy) → c.loop-end.t.dichotomies < most_dichotomies
dichotomy-room c =
    let l = c.loop-end in
    said-room l.k l.t _ (sym c.line_said-said.ensures ∙ (c.in-Ok.is ∙ ap Ok c.in-Dichotomy.is))

-- and a state is one of those that there is room for
state-room : (c : After-line_said-said) {o : StateOutputs} → c.line_said-said.result ≡ Ok (Said.Outputs o) → o.state.0 < most_states
state-room c e =
    let l = c.loop-end in
    omega (arith, said-room l.k l.t _ (sym c.line_said-said.ensures ∙ e), l.invariant.3)

pub loop-end-init : goal.loop-end-init
loop-end-init c =
    let s = c.args.s.now in
    let b = c.blank_listing-none.ensures in
    (cut_of _ _ 0 (omega arith) c.cut-end.ensures, search rules, ap (λ (t : Listing). read_lines 1 t (lines_of s)) b, blank-few b)

pub returns-in_default : goal.returns-in_default
returns-in_default c =
    let why : c.unwrap_or.result ≡ c.in_default.field-0 = c.unwrap_or.ensures ∙ rw (c.err.ensures.value, c.in_default.is) in
    ap Err c.at.ensures
    ∙ ap (λ (r : Refusal). refused r c.loop-end.k) why
    ∙ all_lines (goal.at.returns-in_default c).After-line_said-said c.in_default.is

pub returns-in-End : goal.returns-in-End
returns-in-End c =
    let l = c.loop-end in
    end-at l.k l.t _ (l.end + 1) c.end_verdict.ensures ∙ all_lines (goal.at.returns-in-End c).After-line_said-said (c.in-Ok.is ∙ ap Ok c.in-End.is)

pub offset_bounds-t-n : goal.offset_bounds-t-n
offset_bounds-t-n c = omega (arith, row_room c)

pub bounds-t-n : goal.bounds-t-n
bounds-t-n c = row_room (goal.at.bounds-t-n c).In-Row

pub overflow_add-t : goal.overflow_add-t
overflow_add-t c = omega (arith, row_room (goal.at.overflow_add-t c).In-Row)

pub offset_bounds-t-n-in-Dichotomy : goal.offset_bounds-t-n-in-Dichotomy
offset_bounds-t-n-in-Dichotomy c = omega (arith, dichotomy-room c)

pub bounds-t-n-in-Dichotomy : goal.bounds-t-n-in-Dichotomy
bounds-t-n-in-Dichotomy c = dichotomy-room (goal.at.bounds-t-n-in-Dichotomy c).In-Dichotomy

pub overflow_add-t-in-Dichotomy : goal.overflow_add-t-in-Dichotomy
overflow_add-t-in-Dichotomy c = omega (arith, dichotomy-room (goal.at.overflow_add-t-in-Dichotomy c).In-Dichotomy)

pub offset_bounds-t-n-in-Outputs : goal.offset_bounds-t-n-in-Outputs
offset_bounds-t-n-in-Outputs c = omega (arith, state-room (goal.at.offset_bounds-t-n-in-Outputs c).After-line_said-said (c.in-Ok.is ∙ ap Ok c.in-Outputs.is))

pub bounds-t-n-in-Outputs : goal.bounds-t-n-in-Outputs
bounds-t-n-in-Outputs c = state-room (goal.at.bounds-t-n-in-Outputs c).After-line_said-said (c.in-Ok.is ∙ ap Ok c.in-Outputs.is)

pub overflow_shl-t : goal.overflow_shl-t
overflow_shl-t c = state-room (goal.at.overflow_shl-t c).After-line_said-said (c.in-Ok.is ∙ ap Ok c.in-Outputs.is)

pub loop-end-preserved : goal.loop-end-preserved
loop-end-preserved c =
    let d = (goal.at.loop-end-preserved c).After-line_said-said in
    let l = c.loop-end in
    let s = c.args.s.now in
    let next : Listing → Reading = λ t. read_lines (l.k + 1) t (lines_of (drop (l.end + 1) s)) in (
      cut_of _ _ (l.end + 1) (omega arith) c.cut-end-in-loop-end.ensures,
      omega arith,
      elim c.match-step.branch [
        | in-Head w ↦ ap next w.t-is ∙ all_lines d (c.in-Ok.is ∙ ap Ok w.in-Head.is)
        | in-Row w ↦ ap next w.t-is ∙ all_lines d (c.in-Ok.is ∙ ap Ok w.in-Row.is)
        | in-Dichotomy w ↦ ap next w.t-is ∙ all_lines d (c.in-Ok.is ∙ ap Ok w.in-Dichotomy.is)
        | in-Outputs w ↦ ap next (w.t-is ∙ outputs-done l.t _ _ (state-room d (c.in-Ok.is ∙ ap Ok w.in-Outputs.is))) ∙ all_lines d (c.in-Ok.is ∙ ap Ok w.in-Outputs.is)
      ],
      elim c.match-step.branch [
        | in-Head w ↦ subst Few (sym w.t-is) (said-room l.k l.t _ (sym c.line_said-said.ensures ∙ (c.in-Ok.is ∙ ap Ok w.in-Head.is)))
        | in-Row w ↦ subst Few (sym w.t-is) l.invariant.3
        | in-Dichotomy w ↦ subst Few (sym w.t-is) l.invariant.3
        | in-Outputs w ↦ subst Few (sym w.t-is) l.invariant.3
      ],
    )

pub returns : goal.returns
returns c =
    let l = c.loop-end in
    sym c.break_off.ensures ∙ sym (read-last l.k l.t _ l.at l.end l.invariant.0 (omega arith)) ∙ l.invariant.2
