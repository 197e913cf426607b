-- `host_replies::say_from` meets its contract: a refusal, or a piece of the text.
use Rattle.std.specs.Prelude.{Result}
use mathlib.Core.Path.{sym, ap, ◌∙◌}
use Rattle.std.proofs.lemmas.Result.{err_from_is_err_and}
use Rattle.rules.specs.declared.Refused.{Refused}
use Rattle.host_replies.specs.Ready.{reply_of}
use Rattle.host_replies.specs.Saying.{saying_part}
use Rattle.host_replies.specs.declared.Ready.{Ready}
use Rattle.host_replies.proofs.say_from.Goals as goal

pub returns-in_err-r : goal.returns-in_err-r
unfolding reply_of saying_part
returns-in_err-r c =
    let p = err_from_is_err_and c.from_residual.result c.from_residual.ensures.1 in
    rw (p.1, p.2) (sym (ap (λ (d : Result Ready Refused). saying_part (reply_of d) c.args.from c.args.out.now) c.in_err-r.was))

pub returns : goal.returns
unfolding reply_of
returns c =
    c.say_piece.ensures ∙ sym (ap (λ (d : Result Ready Refused). saying_part (reply_of d) c.args.from c.args.out.now) c.in_ok-r.was)
