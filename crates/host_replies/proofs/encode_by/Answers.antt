-- `host_replies::encode_by` meets its contract, way by way.
use mathlib.Core.Path.{sym, ap, ◌∙◌}
use Rattle.host_replies.specs.Plans.{encoded_by}
use Rattle.host_replies.specs.declared.plans.Way.{Way}
use Rattle.std.specs.Prelude.{Ok}
use Rattle.host_replies.proofs.encode_by.Goals as goal

pub returns-in-Built : goal.returns-in-Built
unfolding encoded_by
returns-in-Built c = c.encode.ensures ∙ sym (ap (λ (w : Way). encoded_by w c.args.t) c.in-Built.is)

pub returns-in-Least : goal.returns-in-Least
unfolding encoded_by
returns-in-Least c = c.encode_least.ensures ∙ sym (ap (λ (w : Way). encoded_by w c.args.t) c.in-Least.is)

pub returns-in-Uncoded : goal.returns-in-Uncoded
unfolding encoded_by
returns-in-Uncoded c = ap Ok c.no_code.ensures ∙ sym (ap (λ (w : Way). encoded_by w c.args.t) c.in-Uncoded.is)
