-- `host_prints::print` meets its contract: a refusal's line, or the lines of the text, from the byte asked for on.
use mathlib.Core.Path.{ap, ◌∙◌}
use Rattle.rules.specs.Answers.{refuses, printed}
use Rattle.write_parts.specs.Parts.{added, added_all}
use Rattle.write_parts.specs.declared.Part.{Part}
use Rattle.host_replies.specs.Ready.{lines_of, reply_of}
use Rattle.host_prints.proofs.Printing.{refused-printed, text-printed, printed-few}
use Rattle.host_prints.proofs.print.Goals as goal

pub returns-in-Err : goal.returns-in-Err
returns-in-Err c =
    let a = c.args in
    let began = c.add_refusal-told.ensures ∙ ap (λ (p : Part). added (printed (refuses c.in-Err.why.refusal c.in-Err.why.line)) (p, a.out.now)) c.begin-begun.ensures in
    let said = refused-printed c.in-Err.is a.from a.out.now (c.add_refusal-told.result, c.add_refusal-told.new.out) began in
    (said, printed-few (reply_of a.ready) a.from a.out.now _ _ said c.add_refusal-told.auto.out)

pub returns-in-Ok : goal.returns-in-Ok
returns-in-Ok c =
    let a = c.args in
    let began = c.add_text-written.ensures ∙ ap (λ (p : Part). added_all (lines_of a.ready) (p, a.out.now)) c.begin-begun.ensures in
    let said = text-printed c.in-Ok.is a.from a.out.now (c.add_text-written.result, c.add_text-written.new.out) began in
    (said, printed-few (reply_of a.ready) a.from a.out.now _ _ said c.add_text-written.auto.out)
