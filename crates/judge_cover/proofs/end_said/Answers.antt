-- `judge_cover::end_said` meets its contract.
use Rattle.judge_cover.proofs.Laws.{end-few, end-all}
use Rattle.judge_cover.proofs.end_said.Goals as goal

pub returns-then-h : goal.returns-then-h
returns-then-h c = end-few _ c.if-h.true

pub returns : goal.returns
returns c = end-all _ c.if-h.false
