-- `host_replies::say_part` meets its contract: what the steps give is what the bytes are ready for, and that is the reply to them.
use mathlib.Core.Path.{◌∙◌}
use Rattle.std.proofs.lemmas.Result.{err_from_is_err_and}
use Rattle.host_replies.specs.Ready.{reply_of}
use Rattle.host_replies.specs.Saying.{saying_part}
use Rattle.host_replies.proofs.Made.{not-read, steps}
use Rattle.host_replies.proofs.Sayings.{part-so}
use Rattle.host_replies.proofs.say_part.Goals as goal

pub returns-in_err-read_wanted : goal.returns-in_err-read_wanted
unfolding saying_part reply_of
returns-in_err-read_wanted c =
    let p = err_from_is_err_and c.from_residual.result c.from_residual.ensures.1 in
    rw (p.1, p.2) (part-so _ _ (not-read _ _ c.plan_of-plan.ensures c.in_err-read_wanted.ensures) c.args.from c.args.out.now)

pub returns-in_err-coded : goal.returns-in_err-coded
unfolding saying_part reply_of
returns-in_err-coded c =
    let p = err_from_is_err_and c.from_residual-in_err-coded.result c.from_residual-in_err-coded.ensures.1 in
    rw (p.1, p.2) (part-so _ _ (steps _ _ c.plan_of-plan.ensures c.in_ok-read_wanted.ensures c.in_err-coded.ensures) c.args.from c.args.out.now)

pub returns : goal.returns
unfolding saying_part reply_of
returns c =
    c.say_piece.ensures ∙ part-so _ _ (steps _ _ c.plan_of-plan.ensures c.in_ok-read_wanted.ensures c.in_ok-coded.ensures) c.args.from c.args.out.now
