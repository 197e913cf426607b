-- What a program prints of any bytes that it reads.
use Rattle.std.specs.Prelude.{cond, List, ℕ, ltb, length, Result}
use Rattle.rules.specs.Limits.{most_bytes}
use Rattle.rules.specs.Answers.{Reply, refuses, printed}
use Rattle.rules.specs.KissAnswers.{kiss_names_reply}
use Rattle.rules.specs.Parts.{gathered}
use Rattle.rules.specs.declared.Refusal.TheVariants.{Limit}
use Rattle.host_replies.specs.Ready.{reply_of}
use Rattle.host_replies.specs.Saying.{reply_to}
use Rattle.host_replies.specs.declared.Ready.{Ready}
use Rattle.host_replies.specs.declared.plans.Wanted.{Wanted}
use Rattle.rules.specs.declared.Refused.{Refused}

-- the reply, or refused 2 at line 0 where there are more bytes than a listing can have
abbrev pub unless_long : List ℕ → Reply → Reply
unless_long s reply = cond (ltb most_bytes (length s)) (refuses Limit 0) reply

-- of a listing
unfoldable pub answer_to : Wanted → List ℕ → List ℕ
unfolding printed reply_to
answer_to w s = printed (unless_long s (reply_to w s))

-- of a KISS2 text's names
unfoldable pub names_answer : List ℕ → List ℕ
unfolding printed kiss_names_reply
names_answer s = printed (unless_long s (kiss_names_reply s))

-- all that is ready, in parts that fit a buffer
unfoldable pub parts_of : ℕ → Result Ready Refused → List ℕ
unfolding gathered printed reply_of
parts_of room d = gathered room (length (printed (reply_of d))) (printed (reply_of d))
