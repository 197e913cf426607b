-- `judge_cover::number_behind` meets its contract.
use mathlib.Core.Path.{sym, ◌∙◌}
use Rattle.judge_cover.proofs.Laws.{behind-fields, behind-mark, behind-number}
use Rattle.judge_cover.proofs.number_behind.Goals as goal

pub returns-then-field_count-ne2 : goal.returns-then-field_count-ne2
returns-then-field_count-ne2 c = behind-fields _ _ (λ e. c.if-field_count-ne2.true (c.field_count.ensures ∙ e))

pub returns-then-not-is_mark : goal.returns-then-not-is_mark
returns-then-not-is_mark c =
    behind-mark _ _ (sym c.field_count.ensures ∙ c.if-field_count-ne2.false) c.field.ensures (sym c.is_mark.ensures ∙ c.if-not-is_mark.true)

pub returns : goal.returns
returns c =
    behind-number _ _ (sym c.field_count.ensures ∙ c.if-field_count-ne2.false) c.field.ensures (sym c.is_mark.ensures ∙ c.if-not-is_mark.false) c.field-2.ensures c.numeral_of.ensures
