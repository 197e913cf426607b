-- `judge_rows::put_firing` meets its contract.
use Rattle.judge_rows.proofs.Laws.{three-laid}
use Rattle.judge_rows.proofs.put_firing.Goals as goal

pub returns : goal.returns
returns c = three-laid _ _ _
