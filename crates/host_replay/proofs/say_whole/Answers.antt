-- `host_replay::say_whole` meets its contract: a refusal, 10 where the replay is longer than the buffer, or the replay.
use Rattle.std.specs.Prelude.{Err, Result}
use mathlib.Core.Path.{sym, ap, ◌∙◌}
use Rattle.std.proofs.lemmas.Result.{err_from_is_err_and}
use Rattle.rules.specs.declared.Refused.{Refused}
use Rattle.host_replies.specs.Saying.{saying}
use Rattle.host_replies.specs.declared.Ready.{Ready}
use Rattle.host_replies.proofs.Told.{no-space, whole-said}
use Rattle.run_replay.specs.declared.Place.{Place}
use Rattle.host_replay.specs.Replaying.{replay_in}
use Rattle.host_replay.proofs.Replies.{course-pieces, replay-said}
use Rattle.host_replay.proofs.say_whole.Goals as goal

pub returns-in_err-ready : goal.returns-in_err-ready
unfolding replay_in saying
returns-in_err-ready c =
    let a = c.args in
    let p = err_from_is_err_and c.from_residual.result c.from_residual.ensures.1 in
    rw (p.1, p.2) (sym (ap (λ (d : Result Ready Refused). saying (replay_in d a.run.now) a.out.now) c.in_err-ready.was))

pub returns-then-is_longer : goal.returns-then-is_longer
returns-then-is_longer c =
    let a = c.args in
    ap (λ (why : Refused). (Err why, a.out.now)) c.at.ensures
    ∙ no-space _ (course-pieces c.machines-m.result Place.First a.run.now) (replay-said a.run.now c.in_ok-ready.was c.machines-m.ensures) a.out.now (sym c.is_longer.ensures ∙ c.if-is_longer.true)

pub returns : goal.returns
returns c =
    let a = c.args in
    whole-said _ (course-pieces c.machines-m.result Place.First a.run.now) (replay-said a.run.now c.in_ok-ready.was c.machines-m.ensures) a.out.now
    (sym c.is_longer.ensures ∙ c.if-is_longer.false) _ c.print_from-part.ensures
