-- `host_check::say` meets its contract: a refusal, or a line.
use mathlib.Core.Path.{sym, ap, subst, ◌∙◌}
use Rattle.std.proofs.lemmas.Result.{err_from_is_err_and}
use Rattle.rules.specs.Answers.{Reply}
use Rattle.judge_check.specs.Checked.{reply_of}
use Rattle.host_replies.specs.Saying.{saying}
use Rattle.host_check.proofs.Room.{Room, check-room}
use Rattle.host_check.proofs.say.Goals as goal

pub say_line-requires : goal.say_line-requires
unfolding reply_of
say_line-requires c =
    let a = c.args in
    subst Room (sym c.in_ok-checked.ensures) (check-room a.listing.now a.codes.now a.cover.now)

pub returns-in_err-checked : goal.returns-in_err-checked
unfolding reply_of saying
returns-in_err-checked c =
    let p = err_from_is_err_and c.from_residual.result c.from_residual.ensures.1 in
    rw (p.1, p.2) (ap (λ (q : Reply). saying q c.args.out.now) c.in_err-checked.ensures)

pub returns : goal.returns
unfolding reply_of
returns c = c.say_line.ensures ∙ ap (λ (q : Reply). saying q c.args.out.now) c.in_ok-checked.ensures
