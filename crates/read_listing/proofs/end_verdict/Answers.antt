-- `read_listing::end_verdict` meets its contract: 3, then 17.
use mathlib.Core.Path.{ap, ◌∙◌}
use Rattle.read_listing.proofs.Ends.{end_more, end-here}
use Rattle.std.specs.Prelude.{Err}
use Rattle.read_listing.proofs.end_verdict.Goals as goal

pub returns-then-rest-ne0 : goal.returns-then-rest-ne0
returns-then-rest-ne0 c = ap Err c.at.ensures ∙ end_more _ _ _ _ c.if-rest-ne0.true

pub returns : goal.returns
returns c = c.outputs_verdict.ensures ∙ end-here _ _ _ _ c.if-rest-ne0.false
