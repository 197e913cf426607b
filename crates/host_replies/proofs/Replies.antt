-- What any bytes are ready for is the reply of 01 and 02 to them, and its text is small.
use mathlib.Core.Path.{◌≡◌, refl, sym, ap, subst, ◌∙◌}
use mathlib.Core.Bool.{Bool, true, false, ◌&&◌, cond}
use mathlib.Core.List.{List}
use Prim.Native.Nat.{ℕ, ◌≤◌, ◌<◌}
use native.Mathlib.Omega.{arith}
use lib.Dec.{leb}
use lib.ListN.{length}
use Rattle.rules.specs.Limits.{most_bits, most_bytes}
use Rattle.rules.specs.Text.{lines_of as linesOf'}
use Rattle.rules.specs.Listing.{reading, Reading}
use Rattle.rules.specs.Requirements.{requirements}
use Rattle.rules.specs.Code.{Code, Coding, coded, uncoded, coding, build}
use Rattle.rules.specs.Report.{joined_lines}
use Rattle.rules.specs.Answers.{Reply, says, refuses, on_reading, report_of, cover_of, report_reply, cover_reply}
use Rattle.rules.specs.Widths.{with_width, widths, widths_reply}
use Rattle.rules.specs.Least.{least_coding, begins_large, small_reading, least_reply, least_cover_reply}
use Rattle.rules.specs.KissAnswers.{kiss_report_reply, kiss_cover_reply, kiss_listing_reply}
use Rattle.rules.specs.ListingText.{listing_text}
use Rattle.rules.specs.declared.Listing.{Listing}
use Rattle.rules.specs.declared.Encoding.{Encoding}
use Rattle.rules.specs.declared.Refusal.TheVariants.{Limit, Unmet}
use Rattle.rules.proofs.Sound.{Sound, accepted-sound}
use Rattle.rules.proofs.LineNumbers.{refused-line}
use Rattle.rules.proofs.LeastReplies.{small-reading}
use Rattle.rules.proofs.KissSound.{kiss-sound, kiss-line}
use Rattle.rules.proofs.ListingLength.{listing-length, listing-fit}
use Rattle.rules.proofs.Parts.{AllFit, fit_none}
use Rattle.write_parts.specs.Parts.{longest_line}
use Rattle.code_drawing.specs.Drawing.{first_families}
use Rattle.code_encoding.specs.Encode.{no_code, encoding_of, encoded_as, encoded}
use Rattle.code_least.specs.Encode.{least_encoded}
use Rattle.code_judging.specs.Judging.{any_unmet}
use Rattle.write_texts.specs.Texts.{cover_verdict, verdict_of, text_lines}
use Rattle.write_texts.specs.declared.Text.{Text}
use Rattle.write_listing.proofs.Whole.{lines-sound}
use Rattle.host_replies.specs.Plans.{plan_of, is_kiss, is_small, reading_as, width_for, encoded_by}
use Rattle.host_replies.specs.Ready.{ready_with, ready_in, ready_of, ready, lines_of, reply_of, longest}
use Rattle.host_replies.specs.Saying.{reply_to}
use Rattle.host_replies.specs.declared.plans.Wanted.{Wanted}
use Rattle.host_replies.specs.declared.plans.Form.{Form}
use Rattle.host_replies.specs.declared.Ready.{Ready}
use Rattle.host_replies.proofs.Encodings.{Whole, whole-as, whole-least, fair-encoded, fair-least}
use Rattle.host_replies.proofs.Widths.{sound-wide, wide-coded, same-listing}
use Rattle.host_replies.proofs.Texts.{report-few, report-fits, report-said, cover-few, cover-fits, cover-said, widths-few, widths-fits, widths-said}
use Rattle.rules.specs.Refusals.{Verdict, refused}
use Rattle.rules.specs.declared.Refused.{Refused}
use Rattle.std.specs.Prelude.{Ok, Err, Result}

-- a reply with a text within the bound, or a refusal at a line that a number can say
abbrev pub Small : Reply → Type 0
Small (says text) = length text ≤ longest
Small (refuses r line) = line < 100000

-- what is right of what is ready: it tells the reply, which is small, in lines none of which is longer than the longest
pub record Right (reply : Reply) (d : Result Ready Refused) : Type 0 where
  pub same : reply_of d ≡ reply
  pub small : Small (reply_of d)
  pub fits : AllFit longest_line (lines_of d)

-- ---- a listing with a code

-- what is right of a text in what an encoder gives
abbrev RightIn : Text → Listing → Result Encoding Refused → Reply → Type 0
RightIn x t a reply = Right reply (ready_with x t a)

-- the code that there is is held whole
abbrev Held : Listing → Coding → Type 0
Held t a = (c : Code) → a ≡ coded c → Whole t c (encoding_of t c)

-- a cover that is withheld, or not
abbrev withheld-if : Listing → Encoding → Bool → Result Ready Refused
withheld-if t e b = elim (cond {A = Verdict} b (refused Unmet 0) (Ok tt)) [ Ok _ ↦ Ok (record { text = Text.Cover; listing = t; encoding = e }) | Err why ↦ Err why ]

module _ (t : Listing) where
  report-right : (a : Coding) → Held t a → RightIn Text.Report t (encoded_as t a) (report_of t a)
  unfolding encoded_as verdict_of ready_with ready_in reply_of lines_of report_reply
  report-right (coded c) q =
      let e : Encoding = encoding_of t c in
      let w : Whole t c e = q c refl in
      record { same = report-said t c e w; small = report-few t c e w; fits = report-fits t c e w }
  report-right (uncoded r) q = record { same = refl; small = omega arith; fits = fit_none }

  cover-right : (a : Coding) → Held t a → RightIn Text.Cover t (encoded_as t a) (cover_of t a)
  unfolding encoded_as verdict_of cover_verdict ready_with ready_in reply_of lines_of cover_of
  cover-right (coded c) q = go (any_unmet (first_families t) e) refl
    where
      e : Encoding
      e = encoding_of t c

      w : Whole t c e
      w = q c refl

      go : (b : Bool) → any_unmet (first_families t) e ≡ b → Right (cover_of t (coded c)) (withheld-if t e b)
      go true h = record { same = cover-said t c e w true h; small = omega arith; fits = fit_none }
      go false h = record { same = cover-said t c e w false h; small = cover-few t c e w; fits = cover-fits t c e w }
  cover-right (uncoded r) q = record { same = refl; small = omega arith; fits = fit_none }

-- ---- a listing that is coded as wide as a code can be

widths-right : (t : Listing) → Sound t → (a : Coding) → coding (with_width most_bits t) ≡ a → a ≡ coded (build most_bits t.head.states (requirements t))
    → RightIn Text.Widths (with_width most_bits t) (encoded_as (with_width most_bits t) a) (says (widths t))
unfolding encoded_as verdict_of ready_with ready_in reply_of lines_of
widths-right t s (coded c) q h =
    let u : Listing = with_width most_bits t in
    let e : Encoding = encoding_of u c in
    let w : Whole u c e = whole-as u (sound-wide t s) c q in
    record { same = ap says (widths-said u c e w q refl ∙ same-listing t); small = widths-few u c e w; fits = widths-fits u c e w }
widths-right t s (uncoded r) q h = absurd (never h)
  where
    never : uncoded r ≡ coded (build most_bits t.head.states (requirements t)) → ⊥
    never z = let y : ◌≡◌ {A = ℕ} 0 1 = cc in omega arith

-- ---- a listing that is written as it is, without a code

listing-right : (t : Listing) → Sound t → RightIn Text.Listing t (Ok no_code) (says (listing_text t))
unfolding verdict_of ready_with ready_in reply_of lines_of text_lines listing_text
listing-right t s =
    let lines = lines-sound t s in
    record {
      same = ap (λ (ls : List (List ℕ)). says (joined_lines ls)) lines;
      small = rw lines (omega (arith, listing-length t s));
      fits = rw lines (listing-fit t s);
    }

-- ---- any listing that is accepted

-- the reply of 01 and 02 to a listing
abbrev on_listing : Wanted → Listing → Reply
unfolding report_reply cover_reply
on_listing Wanted.Report t = report_of t (coding t)
on_listing Wanted.Cover t = cover_of t (coding t)
on_listing Wanted.Widths t = says (widths t)
on_listing Wanted.Least t = report_of t (least_coding t)
on_listing Wanted.LeastCover t = cover_of t (least_coding t)
on_listing Wanted.KissReport t = report_of t (coding t)
on_listing Wanted.KissCover t = cover_of t (coding t)
on_listing Wanted.KissListing t = says (listing_text t)

-- what is coded
abbrev as_coded : Wanted → Listing → Listing
as_coded w t = with_width (width_for (plan_of w).text t.head.width) t

-- an encoder answers so
in_code : (x : Text) (t : Listing) {e f : Result Encoding Refused} (reply : Reply) → e ≡ f → RightIn x t f reply → RightIn x t e reply
in_code x t reply h r = subst (λ (e : Result Encoding Refused). RightIn x t e reply) (sym h) r

module _ (t : Listing) (s : Sound t) where
  built-report : RightIn Text.Report t (encoded t) (report_of t (coding t))
  built-report = in_code Text.Report t (report_of t (coding t)) (fair-encoded t s) (report-right t (coding t) (whole-as t s))

  built-cover : RightIn Text.Cover t (encoded t) (cover_of t (coding t))
  built-cover = in_code Text.Cover t (cover_of t (coding t)) (fair-encoded t s) (cover-right t (coding t) (whole-as t s))

  built-widths : RightIn Text.Widths (with_width most_bits t) (encoded (with_width most_bits t)) (says (widths t))
  built-widths =
      let u : Listing = with_width most_bits t in
      in_code Text.Widths u (says (widths t)) (fair-encoded u (sound-wide t s)) (widths-right t s (coding u) refl (wide-coded t))

  least-report : RightIn Text.Report t (least_encoded t) (report_of t (least_coding t))
  least-report = in_code Text.Report t (report_of t (least_coding t)) (fair-least t s) (report-right t (least_coding t) (whole-least t s))

  least-cover : RightIn Text.Cover t (least_encoded t) (cover_of t (least_coding t))
  least-cover = in_code Text.Cover t (cover_of t (least_coding t)) (fair-least t s) (cover-right t (least_coding t) (whole-least t s))

accepted-right : (w : Wanted) (t : Listing) → Sound t → RightIn (plan_of w).text (as_coded w t) (encoded_by (plan_of w).way (as_coded w t)) (on_listing w t)
unfolding plan_of width_for encoded_by on_listing
accepted-right Wanted.Report t s = built-report t s
accepted-right Wanted.Cover t s = built-cover t s
accepted-right Wanted.Widths t s = built-widths t s
accepted-right Wanted.Least t s = least-report t s
accepted-right Wanted.LeastCover t s = least-cover t s
accepted-right Wanted.KissReport t s = built-report t s
accepted-right Wanted.KissCover t s = built-cover t s
accepted-right Wanted.KissListing t s = listing-right t s

-- ---- any bytes, read

-- what is accepted is sound, and what is refused is so at a line that a number can say
module _ (s : List ℕ) where
  read-sound : (f : Form) {t : Listing} → reading_as f s ≡ Ok t → Sound t
  unfolding reading_as is_kiss is_small
  read-sound Form.Listing h = accepted-sound s h
  read-sound Form.Small h = accepted-sound s (small-reading s h)
  read-sound Form.Kiss h = kiss-sound s h

  read-line : (f : Form) {why : Refused} → reading_as f s ≡ Err why → why.line < 100000
  unfolding reading_as is_kiss is_small small_reading
  read-line Form.Listing {why} h = refused-line s why.refusal why.line h
  read-line Form.Small {why} h = go (leb (length s) most_bytes && begins_large (linesOf' s)) h
    where
      go : (b : Bool) → ◌≡◌ {A = Reading} (cond b (refused Limit 1) (reading s)) (Err why) → why.line < 100000
      go true q = let e : ◌≡◌ {A = ℕ} 1 why.line = cc in omega arith
      go false q = refused-line s why.refusal why.line q
  read-line Form.Kiss {why} h = kiss-line s why.refusal why.line h

on-reading : (w : Wanted) (s : List ℕ) → reply_to w s ≡ on_reading (reading_as (plan_of w).form s) (on_listing w)
unfolding reply_to report_reply cover_reply widths_reply least_reply least_cover_reply kiss_report_reply kiss_cover_reply kiss_listing_reply on_listing plan_of reading_as is_kiss is_small
on-reading Wanted.Report s = refl
on-reading Wanted.Cover s = refl
on-reading Wanted.Widths s = refl
on-reading Wanted.Least s = refl
on-reading Wanted.LeastCover s = refl
on-reading Wanted.KissReport s = refl
on-reading Wanted.KissCover s = refl
on-reading Wanted.KissListing s = refl

module _ (w : Wanted) (s : List ℕ) where
  abbrev form : Form
  form = (plan_of w).form

  -- by what the reader gives
  read_right : (r : Reading) → reading_as form s ≡ r → Right (on_reading r (on_listing w)) (ready_of (plan_of w) r)
  unfolding ready_of reply_of lines_of
  read_right (Ok t) h = accepted-right w t (read-sound s form h)
  read_right (Err why) h = record { same = refl; small = read-line s form h; fits = fit_none }

  right : Right (on_reading (reading_as form s) (on_listing w)) (ready w s)
  unfolding ready
  right = read_right (reading_as form s) refl

  pub reply-is : reply_of (ready w s) ≡ reply_to w s
  reply-is = right.same ∙ sym (on-reading w s)

  pub reply-small : Small (reply_of (ready w s))
  reply-small = right.small

  pub reply-fits : AllFit longest_line (lines_of (ready w s))
  reply-fits = right.fits

  pub small : Small (reply_to w s)
  small = subst Small reply-is reply-small
