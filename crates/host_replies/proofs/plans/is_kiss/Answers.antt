-- `host_replies::plans::is_kiss` meets its contract, form by form.
use mathlib.Core.Path.{sym, ap}
use Rattle.host_replies.specs.Plans.{is_kiss}
use Rattle.host_replies.proofs.plans.is_kiss.Goals as goal

pub returns-in-Listing : goal.returns-in-Listing
unfolding is_kiss
returns-in-Listing c = sym (ap is_kiss c.in-Listing.is)

pub returns-in-Small : goal.returns-in-Small
unfolding is_kiss
returns-in-Small c = sym (ap is_kiss c.in-Small.is)

pub returns-in-Kiss : goal.returns-in-Kiss
unfolding is_kiss
returns-in-Kiss c = sym (ap is_kiss c.in-Kiss.is)
