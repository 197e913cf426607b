-- `judge_rows::line_firing` meets its contract.
use Rattle.judge_rows.proofs.Laws.{firing-made}
use Rattle.judge_rows.proofs.line_firing.Goals as goal

pub returns : goal.returns
returns c =
    firing-made _ _ _ c.field-f.ensures c.first_of.ensures c.marks_of-at.ensures c.rest_of.ensures c.marks_of-code.ensures c.states_taking.ensures
