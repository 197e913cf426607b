-- `judge_rows::takes_digit` meets its contract.
use native.Mathlib.Omega.{arith}
use Rattle.judge_rows.proofs.Laws.{takes-is}
use Rattle.judge_rows.proofs.takes_digit.Goals as goal

pub returns : goal.returns
returns c = takes-is _ _ (omega arith) (omega arith) (omega arith) c.from.ensures
