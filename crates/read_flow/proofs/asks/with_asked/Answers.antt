-- `asks::with_asked` meets its contract.
use mathlib.Core.Path.{sym}
use Rattle.read_flow.proofs.Gathered.{asked-more, asked-one}
use Rattle.read_flow.proofs.asks.with_asked.Goals as goal

pub returns-then-n-ge-MOST_DICHOTOMIES : goal.returns-then-n-ge-MOST_DICHOTOMIES
returns-then-n-ge-MOST_DICHOTOMIES c = sym (asked-more _ _ c.if-n-ge-MOST_DICHOTOMIES.true)

pub returns : goal.returns
returns c = sym (asked-one _ _ c.if-n-ge-MOST_DICHOTOMIES.false)
