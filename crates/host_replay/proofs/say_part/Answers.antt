-- `host_replay::say_part` meets its contract.
use Rattle.std.specs.Prelude.{Result}
use mathlib.Core.Path.{ap, ◌∙◌}
use Rattle.rules.specs.Answers.{Reply}
use Rattle.rules.specs.declared.Refused.{Refused}
use Rattle.host_replies.specs.Saying.{saying_part}
use Rattle.host_replies.specs.declared.Ready.{Ready}
use Rattle.host_replay.specs.Replaying.{replay_in}
use Rattle.host_replay.proofs.Replies.{reply-is}
use Rattle.host_replay.proofs.say_part.Goals as goal

pub returns : goal.returns
returns c =
    let a = c.args in
    c.say_from.ensures
    ∙ ap (λ (d : Result Ready Refused). saying_part (replay_in d a.run.now) a.from a.out.now) c.prepare.ensures
    ∙ ap (λ (x : Reply). saying_part x a.from a.out.now) (reply-is a.listing.now a.run.now)
