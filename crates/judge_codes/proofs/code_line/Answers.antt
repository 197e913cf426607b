-- `judge_codes::code_line` meets its contract.
use mathlib.Core.Path.{sym, ap, ◌∙◌}
use Rattle.rules.specs.CheckTexts.{is_number}
use Rattle.judge_codes.proofs.Laws.{said-fields, said-mark, said-number, said-code}
use Rattle.judge_codes.proofs.code_line.Goals as goal

pub returns-then-field_count-ne3 : goal.returns-then-field_count-ne3
returns-then-field_count-ne3 c = said-fields _ _ _ (λ e. c.if-field_count-ne3.true (c.field_count.ensures ∙ e))

pub returns-then-not-leads : goal.returns-then-not-leads
returns-then-not-leads c =
    said-mark _ _ _ (sym c.field_count.ensures ∙ c.if-field_count-ne3.false) (sym c.leads.ensures ∙ c.if-not-leads.true)

pub returns-then-not-is_number : goal.returns-then-not-is_number
returns-then-not-is_number c =
    said-number _ _ _ (sym c.field_count.ensures ∙ c.if-field_count-ne3.false) (sym c.leads.ensures ∙ c.if-not-leads.false) (ap (is_number _) (sym c.field.ensures) ∙ sym c.is_number.ensures ∙ c.if-not-is_number.true)

pub returns : goal.returns
returns c =
    said-code _ _ _ (sym c.field_count.ensures ∙ c.if-field_count-ne3.false) (sym c.leads.ensures ∙ c.if-not-leads.false) (ap (is_number _) (sym c.field.ensures) ∙ sym c.is_number.ensures ∙ c.if-not-is_number.false) c.field-2.ensures c.code_in.ensures
