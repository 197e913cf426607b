-- `host_replies::add_text` meets its contract: to a refused text no line is added.
use Rattle.std.specs.Prelude.{Result}
use mathlib.Core.Path.{sym, ap, ◌∙◌}
use Rattle.rules.specs.declared.Refused.{Refused}
use Rattle.write_parts.specs.Parts.{added_all}
use Rattle.write_parts.proofs.Adding.{Lent, all_none}
use Rattle.host_replies.specs.Ready.{lines_of}
use Rattle.host_replies.specs.declared.Ready.{Ready}
use Rattle.host_replies.proofs.add_text.Goals as goal

pub returns-in_default : goal.returns-in_default
unfolding lines_of
returns-in_default c =
    let at : Lent = (c.args.part, c.args.out.now) in
    sym (ap (λ (d : Result Ready Refused). added_all (lines_of d) at) c.in_default.is ∙ all_none at)

pub returns : goal.returns
unfolding lines_of
returns c =
    c.add_lines.ensures ∙ sym (ap (λ (d : Result Ready Refused). added_all (lines_of d) (c.args.part, c.args.out.now)) c.in-Ok.is)
