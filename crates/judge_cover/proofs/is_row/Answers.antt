-- `judge_cover::is_row` meets its contract.
use mathlib.Core.Path.{sym, ap, ◌∙◌}
use Rattle.rules.specs.CheckTexts.{places_fit}
use Rattle.judge_cover.proofs.Laws.{row-fields, row_first, row-second}
use Rattle.judge_cover.proofs.is_row.Goals as goal

pub returns-then-field_count-ne2 : goal.returns-then-field_count-ne2
returns-then-field_count-ne2 c = row-fields _ _ (λ e. c.if-field_count-ne2.true (c.field_count.ensures ∙ e))

pub returns-then-not-places_fit : goal.returns-then-not-places_fit
returns-then-not-places_fit c =
    row_first _ _ (sym c.field_count.ensures ∙ c.if-field_count-ne2.false) (ap (places_fit _) (sym c.field.ensures) ∙ sym c.places_fit.ensures ∙ c.if-not-places_fit.true)

pub returns : goal.returns
returns c =
    row-second _ _ (sym c.field_count.ensures ∙ c.if-field_count-ne2.false) (ap (places_fit _) (sym c.field.ensures) ∙ sym c.places_fit.ensures ∙ c.if-not-places_fit.false) c.field-2.ensures c.places_fit-2.ensures
