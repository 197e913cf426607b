-- `read_flow::break_off` meets its contract.
use mathlib.Core.Path.{sym, ap, ◌∙◌}
use Rattle.rules.specs.FlowLines.{flow_placed}
use Rattle.rules.specs.declared.Mark.{Mark}
use Rattle.read_flow.specs.Flows.{flow_of}
use Rattle.read_flow.proofs.Ends.{unended-none, unended-some}
use Rattle.std.specs.Prelude.{Err}
use Rattle.read_flow.proofs.break_off.Goals as goal

pub returns-then-l-eq0 : goal.returns-then-l-eq0
returns-then-l-eq0 c = ap Err c.at.ensures ∙ ap flow_of (sym (unended-none _ _ _ c.if-l-eq0.true))

pub returns-then-in_place : goal.returns-then-in_place
returns-then-in_place c =
    let a = c.args in
    let m = sym (ap (λ (x : Mark). flow_placed x a.k a.n) c.mark_of.ensures) ∙ sym c.in_place.ensures in
    ap Err c.at-then-in_place.ensures ∙ ap flow_of (sym (unended-some _ _ _ c.if-l-eq0.false (m ∙ c.if-in_place.true)))

pub returns : goal.returns
returns c =
    let a = c.args in
    let m = sym (ap (λ (x : Mark). flow_placed x a.k a.n) c.mark_of.ensures) ∙ sym c.in_place.ensures in
    ap Err c.at-2.ensures ∙ ap flow_of (sym (unended-some _ _ _ c.if-l-eq0.false (m ∙ c.if-in_place.false)))
