-- `judge_codes::width_in` meets its contract.
use mathlib.Core.Path.{sym, ◌∙◌}
use Rattle.judge_codes.proofs.Laws.{width-dash, width_some}
use Rattle.judge_codes.proofs.width_in.Goals as goal

pub returns-then-is_dash : goal.returns-then-is_dash
returns-then-is_dash c =
    width-dash _ c.field-f.ensures (sym c.is_dash.ensures ∙ c.if-is_dash.true)

pub returns : goal.returns
returns c = width_some _ c.field-f.ensures (sym c.is_dash.ensures ∙ c.if-is_dash.false)
