-- `host_replies::say` meets its contract: what the steps give is what the bytes are ready for, and that is the reply to them.
use mathlib.Core.Path.{◌∙◌}
use Rattle.std.proofs.lemmas.Result.{err_from_is_err_and}
use Rattle.host_replies.specs.Ready.{lines_of, reply_of}
use Rattle.host_replies.specs.Saying.{saying}
use Rattle.host_replies.proofs.Made.{not-read, steps}
use Rattle.host_replies.proofs.Sayings.{said-so, few-so}
use Rattle.host_replies.proofs.say.Goals as goal

pub returns-in_err-read_wanted : goal.returns-in_err-read_wanted
unfolding saying reply_of
returns-in_err-read_wanted c =
    let p = err_from_is_err_and c.from_residual.result c.from_residual.ensures.1 in
    rw (p.1, p.2) (said-so _ _ (not-read _ _ c.plan_of-plan.ensures c.in_err-read_wanted.ensures) c.args.out.now)

pub returns-in_err-coded : goal.returns-in_err-coded
unfolding saying reply_of
returns-in_err-coded c =
    let p = err_from_is_err_and c.from_residual-in_err-coded.result c.from_residual-in_err-coded.ensures.1 in
    rw (p.1, p.2) (said-so _ _ (steps _ _ c.plan_of-plan.ensures c.in_ok-read_wanted.ensures c.in_err-coded.ensures) c.args.out.now)

pub say_whole-requires : goal.say_whole-requires
unfolding lines_of
say_whole-requires c = few-so _ _ (steps _ _ c.plan_of-plan.ensures c.in_ok-read_wanted.ensures c.in_ok-coded.ensures)

pub returns : goal.returns
unfolding saying reply_of
returns c =
    c.say_whole.ensures ∙ said-so _ _ (steps _ _ c.plan_of-plan.ensures c.in_ok-read_wanted.ensures c.in_ok-coded.ensures) c.args.out.now
