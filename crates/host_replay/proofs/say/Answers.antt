-- `host_replay::say` meets its contract: what the bytes are ready for is the reply of 02 to them.
use Rattle.std.specs.Prelude.{Result}
use mathlib.Core.Path.{ap, ◌∙◌}
use Rattle.rules.specs.Answers.{Reply}
use Rattle.rules.specs.declared.Refused.{Refused}
use Rattle.host_replies.specs.Saying.{saying}
use Rattle.host_replies.specs.declared.Ready.{Ready}
use Rattle.host_replay.specs.Replaying.{replay_in}
use Rattle.host_replay.proofs.Replies.{reply-is}
use Rattle.host_replay.proofs.say.Goals as goal

pub returns : goal.returns
returns c =
    let a = c.args in
    c.say_whole.ensures
    ∙ ap (λ (d : Result Ready Refused). saying (replay_in d a.run.now) a.out.now) c.prepare.ensures
    ∙ ap (λ (x : Reply). saying x a.out.now) (reply-is a.listing.now a.run.now)
