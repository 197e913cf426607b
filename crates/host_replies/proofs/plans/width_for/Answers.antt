-- `host_replies::plans::width_for` meets its contract, text by text.
use mathlib.Core.Path.{sym, ap}
use Rattle.write_texts.specs.declared.Text.{Text}
use Rattle.host_replies.specs.Plans.{width_for}
use Rattle.host_replies.proofs.plans.width_for.Goals as goal

pub returns-in-Report : goal.returns-in-Report
unfolding width_for
returns-in-Report c = sym (ap (λ (x : Text). width_for x c.args.width) c.in-Report.is)

pub returns-in-Cover : goal.returns-in-Cover
unfolding width_for
returns-in-Cover c = sym (ap (λ (x : Text). width_for x c.args.width) c.in-Cover.is)

pub returns-in-Widths : goal.returns-in-Widths
unfolding width_for
returns-in-Widths c = sym (ap (λ (x : Text). width_for x c.args.width) c.in-Widths.is)

pub returns-in-Listing : goal.returns-in-Listing
unfolding width_for
returns-in-Listing c = sym (ap (λ (x : Text). width_for x c.args.width) c.in-Listing.is)
