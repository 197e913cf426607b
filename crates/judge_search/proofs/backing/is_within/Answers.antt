-- `judge_search::backing::is_within` meets its contract.
use mathlib.Core.Path.{refl}
use Rattle.judge_search.specs.Backing.{within}
use Rattle.judge_search.proofs.backing.is_within.Goals as goal

pub returns : goal.returns
unfolding within
returns c = refl
