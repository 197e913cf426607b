-- `judge_rows::put_saying` meets its contract.
use Rattle.judge_rows.proofs.Laws.{four-laid}
use Rattle.judge_rows.proofs.put_saying.Goals as goal

pub returns : goal.returns
returns c = four-laid _ _ _
