-- `judge_reading::end_of` meets its contract.
use mathlib.Core.Path.{sym, ap, ◌∙◌}
use Rattle.judge_reading.proofs.Laws.{end_more, end-over, end-early}
use Rattle.std.specs.Prelude.{Err}
use Rattle.judge_reading.proofs.end_of.Goals as goal

pub returns-then-l-ne0 : goal.returns-then-l-ne0
returns-then-l-ne0 c = ap Err c.at.ensures ∙ end_more _ _ _ _ _ c.if-l-ne0.true

pub returns-then-not-is_over : goal.returns-then-not-is_over
returns-then-not-is_over c =
    ap Err c.at-then-not-is_over.ensures ∙ end-early _ _ _ _ _ c.if-l-ne0.false (sym c.is_over.ensures ∙ c.if-not-is_over.true)

pub returns : goal.returns
returns c =
    end-over _ _ _ _ _ c.if-l-ne0.false (sym c.is_over.ensures ∙ c.if-not-is_over.false) c.fit_of.ensures
