-- `write_cover::is_bounded` meets its contract.
use Rattle.std.proofs.Common.{arith}
use Rattle.std.proofs.lemmas.Grind.{common_steps}
use Rattle.write_cover.specs.Covers.{bounded}
use Rattle.write_cover.proofs.is_bounded.Goals as goal

pub returns-then-inputs-le-MOST_INPUTS : goal.returns-then-inputs-le-MOST_INPUTS
unfolding bounded
returns-then-inputs-le-MOST_INPUTS c = grind (arith, common_steps)

pub returns-else-inputs-le-MOST_INPUTS : goal.returns-else-inputs-le-MOST_INPUTS
unfolding bounded
returns-else-inputs-le-MOST_INPUTS c = grind (arith, common_steps)
