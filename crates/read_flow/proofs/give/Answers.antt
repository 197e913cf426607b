-- `read_flow::give` meets its contract.
use mathlib.Core.Path.{sym, ap, ◌∙◌}
use Rattle.read_flow.proofs.Ends.{given-many, given-few}
use Rattle.std.specs.Prelude.{Err}
use Rattle.read_flow.proofs.give.Goals as goal

pub returns-then-g-gt-MOST_DICHOTOMIES : goal.returns-then-g-gt-MOST_DICHOTOMIES
returns-then-g-gt-MOST_DICHOTOMIES c = ap Err c.at.ensures ∙ sym (given-many _ c.if-g-gt-MOST_DICHOTOMIES.true)

pub returns : goal.returns
returns c = sym (given-few _ c.if-g-gt-MOST_DICHOTOMIES.false)
