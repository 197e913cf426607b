-- `read_listing::no_head` meets its contract.
use mathlib.Core.Path.{refl}
use Rattle.rules.specs.Listing.{blank}
use Rattle.read_listing.proofs.no_head.Goals as goal

pub returns : goal.returns
unfolding blank
returns c = refl
