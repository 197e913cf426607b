-- `stable::stability_of` meets its contract: the states from s on decide what all states do.
use mathlib.Core.Path.{sym, ap, ◌∙◌}
use native.Mathlib.Omega.{arith}
use Rattle.read_flow.proofs.Tables.{stable-next, stable-not, stable-end}
use Rattle.std.specs.Prelude.{Err}
use Rattle.read_flow.proofs.stable.stability_of.Goals as goal

pub returns-then-not-goes_well : goal.returns-then-not-goes_well
returns-then-not-goes_well c =
    let l = c.loop-s in
    ap Err c.at.ensures ∙ sym (stable-not _ l.s _ (omega arith) (sym c.goes_well.ensures ∙ c.if-not-goes_well.true)) ∙ l.invariant

pub loop-s-preserved : goal.loop-s-preserved
loop-s-preserved c =
    let l = c.loop-s in
    sym (stable-next _ l.s _ (omega arith) (sym c.goes_well.ensures ∙ c.if-not-goes_well.false)) ∙ l.invariant

pub returns : goal.returns
returns c =
    let l = c.loop-s in
    sym (stable-end _ l.s _ (omega arith)) ∙ l.invariant
