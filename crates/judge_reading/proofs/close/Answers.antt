-- `judge_reading::close` meets its contract: a refusal stays, and a line that is to come is the end.
use Rattle.judge_reading.proofs.Laws.{closed-refused, closed-line}
use Rattle.judge_reading.proofs.close.Goals as goal

pub returns-in-Err : goal.returns-in-Err
returns-in-Err c = closed-refused _ _ c.in-Err.is

pub returns-in-Ok : goal.returns-in-Ok
returns-in-Ok c = closed-line _ _ c.in-Ok.is c.end_of.ensures
