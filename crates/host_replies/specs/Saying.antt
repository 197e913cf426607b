-- What is said, whole or in parts, and what the buffer then holds.
use Rattle.std.specs.Prelude.{cond, List, ◌++◌, ℕ, leb, length, drop, Ok, Result}
use Rattle.rules.specs.Answers.{Reply, says, refuses, report_reply, cover_reply}
use Rattle.rules.specs.Widths.{widths_reply}
use Rattle.rules.specs.Least.{least_reply, least_cover_reply}
use Rattle.rules.specs.KissAnswers.{kiss_report_reply, kiss_cover_reply, kiss_listing_reply}
use Rattle.rules.specs.Parts.{part, gets_on}
use Rattle.rules.specs.declared.Refusal.TheVariants.{NoRoom}
use Rattle.host_replies.specs.declared.plans.Wanted.{Wanted}
use Rattle.rules.specs.Refusals.{refused}
use Rattle.rules.specs.declared.Refused.{Refused}

-- the reply of 01 and 02 to what is wanted, of any bytes
unfoldable pub reply_to : Wanted → List ℕ → Reply
unfolding report_reply cover_reply widths_reply least_reply least_cover_reply kiss_report_reply kiss_cover_reply kiss_listing_reply
reply_to Wanted.Report s = report_reply s
reply_to Wanted.Cover s = cover_reply s
reply_to Wanted.Widths s = widths_reply s
reply_to Wanted.Least s = least_reply s
reply_to Wanted.LeastCover s = least_cover_reply s
reply_to Wanted.KissReport s = kiss_report_reply s
reply_to Wanted.KissCover s = kiss_cover_reply s
reply_to Wanted.KissListing s = kiss_listing_reply s

-- The text where it fits, with the bytes behind it as they came; where not, 10, and where it is refused, that: the buffer is then as it came.
unfoldable pub saying : Reply → List ℕ → Result ℕ Refused × List ℕ
saying (says text) out = cond (leb (length text) (length out)) (Ok (length text), text ++ drop (length text) out) (refused NoRoom 0, out)
saying (refuses r line) out = (refused r line, out)

-- The part of the text from a byte on that has room, with the bytes behind it as they came; where the next line does not fit, 10, and where it is refused,
-- that: the buffer is then as it came.
unfoldable pub saying_part : Reply → ℕ → List ℕ → Result ℕ Refused × List ℕ
unfolding part gets_on
saying_part (says text) from out =
    let given : List ℕ = part (length out) from text in
    cond (gets_on (length out) from text) (Ok (length given), given ++ drop (length given) out) (refused NoRoom 0, out)
saying_part (refuses r line) from out = (refused r line, out)
