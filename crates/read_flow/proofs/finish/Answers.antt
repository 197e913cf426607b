-- `read_flow::finish` meets its contract.
use mathlib.Core.Path.{sym, ap, ◌∙◌}
use Rattle.read_flow.specs.Flows.{flow_of}
use Rattle.read_flow.proofs.Ends.{end_more, end-here}
use Rattle.std.specs.Prelude.{Err}
use Rattle.read_flow.proofs.finish.Goals as goal

pub returns-then-rest-ne0 : goal.returns-then-rest-ne0
returns-then-rest-ne0 c = ap Err c.at.ensures ∙ ap flow_of (sym (end_more _ _ _ _ c.if-rest-ne0.true))

pub returns : goal.returns
returns c = c.judge.ensures ∙ ap flow_of (sym (end-here _ _ _ _ c.if-rest-ne0.false))
