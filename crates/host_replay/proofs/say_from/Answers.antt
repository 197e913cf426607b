-- `host_replay::say_from` meets its contract: a refusal, 10 where nothing is given and something is left, or the part.
use Rattle.std.specs.Prelude.{Err, Result}
use mathlib.Core.Path.{sym, ap, ◌∙◌}
use Rattle.std.proofs.lemmas.Result.{err_from_is_err_and}
use Rattle.rules.specs.declared.Refused.{Refused}
use Rattle.host_replies.specs.Saying.{saying_part}
use Rattle.host_replies.specs.declared.Ready.{Ready}
use Rattle.host_replies.proofs.Told.{part-waits, part-said}
use Rattle.run_replay.specs.declared.Place.{Place}
use Rattle.host_replay.specs.Replaying.{replay_in}
use Rattle.host_replay.proofs.Replies.{course-pieces, replay-said}
use Rattle.host_replay.proofs.say_from.Goals.{else-part-eq0-via-then-part-eq0+else-part, else-part-eq0-via-else-part-eq0}
use Rattle.host_replay.proofs.say_from.Goals as goal

pub returns-in_err-ready : goal.returns-in_err-ready
unfolding replay_in saying_part
returns-in_err-ready c =
    let a = c.args in
    let p = err_from_is_err_and c.from_residual.result c.from_residual.ensures.1 in
    rw (p.1, p.2) (sym (ap (λ (d : Result Ready Refused). saying_part (replay_in d a.run.now) a.from a.out.now) c.in_err-ready.was))

pub returns-then-part : goal.returns-then-part
returns-then-part c =
    let a = c.args in
    ap (λ (why : Refused). (Err why, c.print_from-part.new.out)) c.at.ensures
    ∙ part-waits _ (course-pieces c.machines-m.result Place.First a.run.now) (replay-said a.run.now c.in_ok-ready.was c.machines-m.ensures) a.out.now a.from _ c.print_from-part.ensures c.if-part-eq0.true c.if-part.true

pub returns : goal.returns
returns c =
    let a = c.args in
    part-said _ (course-pieces c.machines-m.result Place.First a.run.now) (replay-said a.run.now c.in_ok-ready.was c.machines-m.ensures) a.out.now a.from _ c.print_from-part.ensures
    (elim c.else-part-eq0.branch [
      | else-part-eq0-via-then-part-eq0+else-part w ↦ λ z. w.if-part.false
      | else-part-eq0-via-else-part-eq0 w ↦ λ z. absurd (w.if-part-eq0.false z)
    ])
