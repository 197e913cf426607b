-- `judge_rows::code_at` meets its contract.
use Rattle.judge_rows.proofs.Laws.{code-none, code-some}
use Rattle.judge_rows.proofs.code_at.Goals as goal

pub returns-then-next-eq0 : goal.returns-then-next-eq0
returns-then-next-eq0 c = code-none _ _ c.if-next-eq0.true

pub returns : goal.returns
returns c = code-some _ _ c.if-next-eq0.false c.lowest.ensures
