-- What is printed of a listing: the part of it that has room, from a byte on.
use Rattle.std.specs.Prelude.{Bool, cond, List, ◌++◌, ℕ, length, drop, Result}
use Rattle.rules.specs.Answers.{Reply, printed}
use Rattle.rules.specs.Parts.{part}
use Rattle.rules.specs.declared.Refusal.TheVariants.{Limit}
use Rattle.host_replies.specs.Ready.{ready}
use Rattle.host_replies.specs.declared.Ready.{Ready}
use Rattle.host_replies.specs.declared.plans.Wanted.{Wanted}
use Rattle.rules.specs.Refusals.{refused}
use Rattle.rules.specs.declared.Refused.{Refused}

-- too long where more follows, whatever its bytes
unfoldable pub ready_for : Wanted → List ℕ → Bool → Result Ready Refused
unfolding ready
ready_for w s more = cond more (refused Limit 0) (ready w s)

-- how many bytes, and the buffer that they stand at the start of, the rest of it as it came
unfoldable pub printing : Reply → ℕ → List ℕ → ℕ × List ℕ
unfolding printed part
printing reply from out = let given : List ℕ = part (length out) from (printed reply) in (length given, given ++ drop (length given) out)
