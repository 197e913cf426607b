-- `ending::after_end` meets its contract.
use mathlib.Core.Path.{sym, ap, ◌∙◌}
use Rattle.read_kiss.proofs.Endings.{end_more, end-here}
use Rattle.std.specs.Prelude.{Err}
use Rattle.read_kiss.proofs.ending.after_end.Goals as goal

pub returns-then-rest-ne0 : goal.returns-then-rest-ne0
returns-then-rest-ne0 c = ap Err c.at.ensures ∙ sym (end_more _ _ c.if-rest-ne0.true)

pub returns : goal.returns
returns c = sym (end-here _ _ c.if-rest-ne0.false)
