-- `host_replies::plans::plan_of` meets its contract, by what is wanted.
use mathlib.Core.Path.{sym, ap, ◌∙◌}
use Rattle.host_replies.specs.Plans.{plan_of}
use Rattle.host_replies.proofs.plans.plan_of.Goals as goal

pub returns-in-Report : goal.returns-in-Report
unfolding plan_of
returns-in-Report c = c.planned.ensures ∙ sym (ap plan_of c.in-Report.is)

pub returns-in-Cover : goal.returns-in-Cover
unfolding plan_of
returns-in-Cover c = c.planned-in-Cover.ensures ∙ sym (ap plan_of c.in-Cover.is)

pub returns-in-Widths : goal.returns-in-Widths
unfolding plan_of
returns-in-Widths c = c.planned-in-Widths.ensures ∙ sym (ap plan_of c.in-Widths.is)

pub returns-in-Least : goal.returns-in-Least
unfolding plan_of
returns-in-Least c = c.planned-in-Least.ensures ∙ sym (ap plan_of c.in-Least.is)

pub returns-in-LeastCover : goal.returns-in-LeastCover
unfolding plan_of
returns-in-LeastCover c = c.planned-in-LeastCover.ensures ∙ sym (ap plan_of c.in-LeastCover.is)

pub returns-in-KissReport : goal.returns-in-KissReport
unfolding plan_of
returns-in-KissReport c = c.planned-in-KissReport.ensures ∙ sym (ap plan_of c.in-KissReport.is)

pub returns-in-KissCover : goal.returns-in-KissCover
unfolding plan_of
returns-in-KissCover c = c.planned-in-KissCover.ensures ∙ sym (ap plan_of c.in-KissCover.is)

pub returns-in-KissListing : goal.returns-in-KissListing
unfolding plan_of
returns-in-KissListing c = c.planned-in-KissListing.ensures ∙ sym (ap plan_of c.in-KissListing.is)
