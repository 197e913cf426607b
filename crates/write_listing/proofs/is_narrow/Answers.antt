-- `write_listing::is_narrow` meets its contract.
use Rattle.std.proofs.Common.{arith}
use Rattle.std.proofs.lemmas.Grind.{common_steps}
use Rattle.write_listing.specs.Listings.{narrow}
use Rattle.write_listing.proofs.is_narrow.Goals as goal

pub returns-then-inputs-le-MOST_INPUTS : goal.returns-then-inputs-le-MOST_INPUTS
unfolding narrow
returns-then-inputs-le-MOST_INPUTS c = grind (arith, common_steps)

pub returns-else-inputs-le-MOST_INPUTS : goal.returns-else-inputs-le-MOST_INPUTS
unfolding narrow
returns-else-inputs-le-MOST_INPUTS c = grind (arith, common_steps)
