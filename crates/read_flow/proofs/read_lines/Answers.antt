-- `read_flow::read_lines` meets its contract: the lines from number k on, with the table filled so far, say what all lines say.
use Rattle.std.specs.Prelude.{Result, Ok, Err}
use Rattle.rules.specs.declared.Refusal.{Refusal}
use mathlib.Core.Path.{subst, ◌≡◌, refl, sym, ap, ◌∙◌}
use mathlib.Core.List.{List}
use Prim.Native.Nat.{ℕ, ◌-◌, ◌+◌}
use native.Mathlib.Omega.{arith}
use lib.ListN.{length}
use borrow.Author.Rules.{rules}
use Rattle.rules.specs.Text.{lines_of}
use Rattle.rules.specs.FlowLines.{column_count}
use Rattle.rules.specs.Listing.{flow_step}
use Rattle.read_pieces.proofs.Laws.{part, cut_of}
use Rattle.read_flow.specs.Table.{columns_in, store_from}
use Rattle.read_flow.specs.Flows.{flow_end, said_of, flow_of}
use Rattle.read_flow.specs.declared.says.Said.{Said}
use Rattle.read_flow.proofs.Filling.{said-stops, said-ends, said_goes, ends-late, goes-early, goes-few, Filling, filling-first, all-stopped, all-ended, all-last, filling-next}
use Rattle.read_flow.proofs.read_lines.Goals.{After-line_said-said}
use Rattle.rules.specs.Refusals.{refused}
use Rattle.read_flow.proofs.read_lines.Goals as goal

-- what the line does, by what it says
step : (c : After-line_said-said) {x : Result Said Refusal} → c.line_said-said.result ≡ x
    → said_of (flow_step c.loop-end.k c.args.h.states (column_count (lines_of c.args.s.now)) (part c.args.s.now c.loop-end.at c.loop-end.end)) ≡ x
step c e =
    let l = c.loop-end in
    let a = c.args in
    sym (ap (λ (m : ℕ). said_of (flow_step l.k a.h.states m (part a.s.now l.at l.end))) l.invariant.2) ∙ sym c.line_said-said.ensures ∙ e

pub loop-end-init : goal.loop-end-init
loop-end-init c =
    (cut_of _ _ 0 (omega arith) c.cut-end.ensures, refl, c.columns_of-columns.ensures, search rules, search rules, filling-first _ _ _ _ c.blank_table-table.ensures)

pub returns-in_default : goal.returns-in_default
returns-in_default c =
    let l = c.loop-end in
    let why : c.unwrap_or.result ≡ c.in_default.field-0 = c.unwrap_or.ensures ∙ rw (c.err.ensures.value, c.in_default.is) in
    ap Err c.at.ensures
    ∙ ap (λ (r : Refusal). refused r l.k) why
    ∙ ap flow_of (sym (all-stopped _ _ l.table l.k l.at l.end l.invariant.5 l.invariant.0 (omega arith) (said-stops _ (step (goal.at.returns-in_default c).After-line_said-said c.in_default.is))))

pub finish-requires : goal.finish-requires
finish-requires c =
    let l = c.loop-end in
    let late = ends-late _ _ _ _ (said-ends _ (step (goal.at.finish-requires c).After-line_said-said (c.in-Ok.is ∙ ap Ok c.in-End.is))) in
    (omega (arith, l.invariant.4, l.invariant.5.near), l.invariant.4, omega (arith, l.invariant.2, l.invariant.5.few (omega (arith, late, l.invariant.3))), l.invariant.5.places)

pub returns-in-End : goal.returns-in-End
returns-in-End c =
    let l = c.loop-end in
    let a = c.args in
    let ends = said-ends _ (step (goal.at.returns-in-End c).After-line_said-said (c.in-Ok.is ∙ ap Ok c.in-End.is)) in
    c.finish.ensures
    ∙ ap (λ (m : ℕ). flow_of (flow_end l.k a.h (columns_in l.table a.h.states m) (lines_of (part a.s.now (l.end + 1) (length a.s.now))))) l.invariant.2
    ∙ ap flow_of (sym (all-ended a.h a.s.now l.table l.k l.at l.end l.invariant.5 l.invariant.0 (omega arith) ends))

pub with_line-table-requires : goal.with_line-table-requires
with_line-table-requires c =
    let l = c.loop-end in
    let goes = said_goes _ (step (goal.at.with_line-table-requires c).After-line_said-said (c.in-Ok.is ∙ ap Ok c.in-Line.is)) in
    (omega (arith, goes-early _ _ _ _ goes, l.invariant.4, l.invariant.5.two), l.invariant.4, omega (arith, l.invariant.2, goes-few _ _ _ _ goes))

pub loop-end-preserved : goal.loop-end-preserved
loop-end-preserved c =
    let l = c.loop-end in
    let a = c.args in
    let s = a.s.now in
    let goes = said_goes _ (step (goal.at.loop-end-preserved c).After-line_said-said (c.in-Ok.is ∙ ap Ok c.in-Line.is)) in
    let next = filling-next a.h s l.table l.k l.at l.end l.invariant.5 l.invariant.0 (omega arith) l.invariant.4 goes in
    let made = c.with_line-table.ensures ∙ ap (λ (m : ℕ). store_from a.h.states (part s l.at l.end) (l.k - 2) 0 m l.table) l.invariant.2 in (
      cut_of _ _ _ (omega arith) c.cut-end-in-loop-end.ensures,
      l.invariant.1,
      l.invariant.2,
      l.invariant.3,
      l.invariant.4,
      subst (λ (t : List ℕ). Filling a.h s (column_count (lines_of s)) t (l.k + 1) (l.end + 1)) (sym made) next,
    )

pub returns : goal.returns
returns c =
    let l = c.loop-end in
    c.break_off.ensures ∙ ap flow_of (sym (all-last _ _ l.table l.k l.at l.end l.invariant.5 l.invariant.0 (omega arith)))
