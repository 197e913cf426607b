-- `judge_search::is_failing` meets its contract.
use mathlib.Core.Path.{ap₂, ◌∙◌}
use Rattle.judge_search.specs.Search.{differs, fails_over}
use Rattle.judge_search.proofs.is_failing.Goals as goal

pub returns : goal.returns
unfolding fails_over
returns c = c.are_unlike.ensures ∙ ap₂ differs c.gather-meant.ensures c.gather-given.ensures
