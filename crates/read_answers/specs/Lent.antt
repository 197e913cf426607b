-- A reading in two parts: what a reader answers, and the listing that was lent to it, which is blank where it is refused.
use Rattle.std.specs.Prelude.{Ok, Err}
use Rattle.rules.specs.Refusals.{Verdict}
use Rattle.rules.specs.Listing.{Reading, blank}
use Rattle.rules.specs.declared.Listing.{Listing}

unfoldable pub lent : Reading → Verdict × Listing
unfolding blank
lent (Ok t) = (Ok tt, t)
lent (Err why) = (Err why, blank)
