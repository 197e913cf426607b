-- `read_answers::blank_listing` meets its contract.
use mathlib.Core.Path.{refl}
use Rattle.rules.specs.Listing.{blank}
use Rattle.read_answers.proofs.blank_listing.Goals as goal

pub returns : goal.returns
unfolding blank
returns c = refl
