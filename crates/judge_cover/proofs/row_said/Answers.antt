-- `judge_cover::row_said` meets its contract.
use mathlib.Core.Path.{sym, ◌∙◌}
use Rattle.judge_cover.proofs.Laws.{counted-bad, counted-over, counted-many, counted-one}
use Rattle.judge_cover.proofs.row_said.Goals as goal

pub returns-then-not-is_row : goal.returns-then-not-is_row
returns-then-not-is_row c = counted-bad _ _ (sym c.is_row.ensures ∙ c.if-not-is_row.true)

pub returns-then-h : goal.returns-then-h
returns-then-h c =
    counted-over _ _ (sym c.is_row.ensures ∙ c.if-not-is_row.false) c.if-h.true

pub returns-then-h-ge-MOST_CHECKED : goal.returns-then-h-ge-MOST_CHECKED
returns-then-h-ge-MOST_CHECKED c =
    counted-many _ _ (sym c.is_row.ensures ∙ c.if-not-is_row.false) c.if-h.false c.if-h-ge-MOST_CHECKED.true

pub returns : goal.returns
returns c =
    counted-one _ _ (sym c.is_row.ensures ∙ c.if-not-is_row.false) c.if-h.false c.if-h-ge-MOST_CHECKED.false
