-- `judge_search::is_unlike` meets its contract.
use native.Mathlib.Omega.{arith}
use Rattle.judge_search.proofs.Words.{unlike-mask}
use Rattle.judge_search.proofs.is_unlike.Goals as goal

pub returns : goal.returns
returns c = unlike-mask _ _ _ _ (omega arith) (omega arith) (omega arith) (omega arith)
