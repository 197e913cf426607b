-- `judge_search::stands` meets its contract.
use mathlib.Core.Path.{ap, ◌∙◌}
use lib.Dec.{eqb}
use Rattle.sets.specs.Sets.{has}
use Rattle.judge_search.specs.Rows.{stands}
use Rattle.judge_search.specs.declared.Firing.{Firing}
use Rattle.judge_search.proofs.stands.Goals as goal

pub returns : goal.returns
unfolding stands
returns c = c.member.ensures ∙ ap (λ (f : Firing). eqb (has f.states c.args.s) 1) c.firing_at.ensures
