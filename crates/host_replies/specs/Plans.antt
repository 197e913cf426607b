-- What can be wanted of any bytes: the form in which they are read, the way in which the listing is coded, and the text that is written.
use Rattle.std.specs.Prelude.{Bool, true, false, cond, List, ℕ, Ok, Result}
use Rattle.rules.specs.Limits.{most_bits}
use Rattle.rules.specs.Listing.{reading, Reading}
use Rattle.rules.specs.Least.{small_reading}
use Rattle.rules.specs.Kiss.{kiss_reading}
use Rattle.rules.specs.declared.Listing.{Listing}
use Rattle.rules.specs.declared.Encoding.{Encoding}
use Rattle.code_encoding.specs.Encode.{no_code, encoded}
use Rattle.code_least.specs.Encode.{least_encoded}
use Rattle.write_texts.specs.declared.Text.{Text}
use Rattle.host_replies.specs.declared.plans.Wanted.{Wanted}
use Rattle.host_replies.specs.declared.plans.Form.{Form}
use Rattle.host_replies.specs.declared.plans.Way.{Way}
use Rattle.host_replies.specs.declared.plans.Plan.{Plan}
use Rattle.rules.specs.declared.Refused.{Refused}

-- one line for each
unfoldable pub plan_of : Wanted → Plan
plan_of Wanted.Report = record { form = Form.Listing; way = Way.Built; text = Text.Report }
plan_of Wanted.Cover = record { form = Form.Listing; way = Way.Built; text = Text.Cover }
plan_of Wanted.Widths = record { form = Form.Listing; way = Way.Built; text = Text.Widths }
plan_of Wanted.Least = record { form = Form.Small; way = Way.Least; text = Text.Report }
plan_of Wanted.LeastCover = record { form = Form.Small; way = Way.Least; text = Text.Cover }
plan_of Wanted.KissReport = record { form = Form.Kiss; way = Way.Built; text = Text.Report }
plan_of Wanted.KissCover = record { form = Form.Kiss; way = Way.Built; text = Text.Cover }
plan_of Wanted.KissListing = record { form = Form.Kiss; way = Way.Uncoded; text = Text.Listing }

unfoldable pub is_kiss : Form → Bool
is_kiss Form.Listing = false
is_kiss Form.Small = false
is_kiss Form.Kiss = true

unfoldable pub is_small : Form → Bool
is_small Form.Listing = false
is_small Form.Small = true
is_small Form.Kiss = false

-- what each form of text says
unfoldable pub reading_as : Form → List ℕ → Reading
unfolding is_kiss is_small kiss_reading small_reading reading
reading_as form s = cond (is_kiss form) (kiss_reading s) (cond (is_small form) (small_reading s) (reading s))

-- what each width buys is seen in the widest code, whatever the listing's own width
unfoldable pub width_for : Text → ℕ → ℕ
width_for Text.Report width = width
width_for Text.Cover width = width
width_for Text.Widths width = most_bits
width_for Text.Listing width = width

-- where nothing is coded nothing is refused
unfoldable pub encoded_by : Way → Listing → Result Encoding Refused
unfolding encoded least_encoded no_code
encoded_by Way.Built t = encoded t
encoded_by Way.Least t = least_encoded t
encoded_by Way.Uncoded t = Ok no_code
