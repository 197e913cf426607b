-- `host_replies::plans::is_small` meets its contract, form by form.
use mathlib.Core.Path.{sym, ap}
use Rattle.host_replies.specs.Plans.{is_small}
use Rattle.host_replies.proofs.plans.is_small.Goals as goal

pub returns-in-Listing : goal.returns-in-Listing
unfolding is_small
returns-in-Listing c = sym (ap is_small c.in-Listing.is)

pub returns-in-Small : goal.returns-in-Small
unfolding is_small
returns-in-Small c = sym (ap is_small c.in-Small.is)

pub returns-in-Kiss : goal.returns-in-Kiss
unfolding is_small
returns-in-Kiss c = sym (ap is_small c.in-Kiss.is)
