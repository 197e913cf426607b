-- `read_listing::outputs_verdict` meets its contract.
use mathlib.Core.Path.{sym, ap, ◌∙◌}
use Rattle.read_listing.proofs.Ends.{verdict-by}
use Rattle.std.specs.Prelude.{Err}
use Rattle.read_listing.proofs.outputs_verdict.Goals as goal

pub returns-then-is_complete : goal.returns-then-is_complete
returns-then-is_complete c = sym (verdict-by _ _ _ (sym c.is_complete.ensures ∙ c.if-is_complete.true))

pub returns : goal.returns
returns c = ap Err c.at.ensures ∙ sym (verdict-by _ _ _ (sym c.is_complete.ensures ∙ c.if-is_complete.false))
