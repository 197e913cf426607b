-- `read_names::bytes_of` meets its contract: a piece ends where the text does, if not before.
use Rattle.read_names.proofs.Same.{piece-nothing, piece-some}
use Rattle.read_names.proofs.bytes_of.Goals as goal

pub returns-then-end-start : goal.returns-then-end-start
returns-then-end-start c = piece-nothing _ _ _ c.least-end.ensures c.if-end-start.true

pub returns : goal.returns
returns c = piece-some _ _ _ c.least-end.ensures c.if-end-start.false
