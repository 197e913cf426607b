-- Any bytes, read and coded once for what is wanted: which reply that is ready for, and the lines of its text.
use Rattle.std.specs.Prelude.{List, [], ℕ, ◌≤◌, length, Ok, Err, Result}
use Rattle.rules.specs.Report.{joined_lines}
use Rattle.rules.specs.Answers.{Reply, says, refuses}
use Rattle.rules.specs.Widths.{with_width}
use Rattle.rules.specs.declared.Listing.{Listing}
use Rattle.rules.specs.declared.Encoding.{Encoding}
use Rattle.write_texts.specs.Texts.{verdict_of, text_lines}
use Rattle.write_texts.specs.declared.Text.{Text}
use Rattle.host_replies.specs.Plans.{plan_of, reading_as, width_for, encoded_by}
use Rattle.host_replies.specs.declared.plans.Wanted.{Wanted}
use Rattle.host_replies.specs.declared.plans.Plan.{Plan}
use Rattle.host_replies.specs.declared.Ready.{Ready}
use Rattle.host_replies.specs.declared.Coded.{Coded}
use Rattle.rules.specs.Listing.{Reading}
use Rattle.rules.specs.declared.Refused.{Refused}

-- a listing that lies elsewhere, and what is made of it
abbrev pub prepared : Listing → Result Coded Refused → Result Ready Refused
prepared t (Ok c) = Ok (record { text = c.text; listing = t; encoding = c.encoding })
prepared t (Err why) = Err why

-- what is read, in the width that a text asks for
unfoldable pub widened : Text → Reading → Reading
unfolding width_for
widened x (Ok r) = Ok (with_width (width_for x r.head.width) r)
widened x (Err why) = Err why

-- a text in a code that there is, unless it is withheld
unfoldable pub ready_in : Text → Listing → Encoding → Result Ready Refused
unfolding verdict_of
ready_in x t e = elim (verdict_of x t e) [ Ok _ ↦ Ok (record { text = x; listing = t; encoding = e }) | Err why ↦ Err why ]

-- in the code that an encoder gives
unfoldable pub ready_with : Text → Listing → Result Encoding Refused → Result Ready Refused
unfolding ready_in
ready_with x t (Ok e) = ready_in x t e
ready_with x t (Err why) = Err why

-- of a listing that is read, by a plan
unfoldable pub ready_of : Plan → Reading → Result Ready Refused
unfolding width_for encoded_by ready_with
ready_of p (Ok r) = let t : Listing = with_width (width_for p.text r.head.width) r in ready_with p.text t (encoded_by p.way t)
ready_of p (Err why) = Err why

-- the reader's refusal comes first, then the encoder's, then that of the text
unfoldable pub ready : Wanted → List ℕ → Result Ready Refused
unfolding plan_of reading_as ready_of
ready w s = ready_of (plan_of w) (reading_as (plan_of w).form s)

-- the lines of the text, of any such value; none where it is refused
unfoldable pub lines_of : Result Ready Refused → List (List ℕ)
unfolding text_lines
lines_of (Ok d) = text_lines d.text d.listing d.encoding
lines_of (Err why) = []

-- and the reply
unfoldable pub reply_of : Result Ready Refused → Reply
unfolding text_lines joined_lines
reply_of (Ok d) = says (joined_lines (text_lines d.text d.listing d.encoding))
reply_of (Err why) = refuses why.refusal why.line

-- no text is longer: counts of 60 bytes, 64 lines of 71 for the states, 10,016 lines of 12 for the requirements, and the end
abbrev pub longest : ℕ
longest = 124799

abbrev pub Few : Result Ready Refused → Type 0
Few d = length (joined_lines (lines_of d)) ≤ longest
