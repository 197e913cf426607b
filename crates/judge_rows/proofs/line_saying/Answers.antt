-- `judge_rows::line_saying` meets its contract.
use Rattle.judge_rows.proofs.Laws.{saying-made}
use Rattle.judge_rows.proofs.line_saying.Goals as goal

pub returns : goal.returns
returns c =
    saying-made _ _ c.field-f.ensures c.first_of.ensures c.marks_of-next.ensures c.rest_of.ensures c.marks_of-outputs.ensures
