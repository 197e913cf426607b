-- `judge_cover::body_said` meets its contract.
use mathlib.Core.Path.{sym, ◌∙◌}
use Rattle.judge_cover.proofs.Laws.{body_end, body-row}
use Rattle.judge_cover.proofs.body_said.Goals as goal

pub returns-then-is_mark : goal.returns-then-is_mark
returns-then-is_mark c =
    body_end _ _ (sym c.is_mark.ensures ∙ c.if-is_mark.true) c.end_said.ensures

pub returns : goal.returns
returns c =
    body-row _ _ (sym c.is_mark.ensures ∙ c.if-is_mark.false) c.row_said.ensures
