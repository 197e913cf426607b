-- What each width buys, of a listing that is coded as wide as a code can be.
use mathlib.Core.Path.{◌≡◌, refl, sym, ap, subst, ◌∙◌}
use mathlib.Core.Bool.{Bool, cond}
use Prim.Native.Nat.{ℕ}
use native.Mathlib.Omega.{arith}
use lib.ListN.{length, take}
use lib.Seq.{take-append_seam}
use borrow.Author.Tests.{ne_eqb}
use Rattle.rules.specs.Limits.{most_bits}
use Rattle.rules.specs.Listing.{dichotomies_of}
use Rattle.rules.specs.Requirements.{pairs_and_groups, requirements}
use Rattle.rules.specs.Code.{Code, coded, coding, build, unmet}
use Rattle.rules.specs.Widths.{with_width, bits_of, covered, width_lines, widths}
use Rattle.rules.specs.declared.Listing.{Listing}
use Rattle.rules.specs.declared.Encoding.{Encoding}
use Rattle.rules.proofs.Sound.{Sound}
use Rattle.rules.proofs.Ways.{same-accepted}
use Rattle.rules.proofs.Built.{was-built}
use Rattle.rules.proofs.Good.{requirements-good}
use Rattle.code_fair.proofs.FairListings.{sound-fair}
use Rattle.code_encoding.specs.Encode.{encoded_as, encoded}
use Rattle.code_drawing.specs.Drawing.{dichotomy_words, first_families, all_families}
use Rattle.write_widths.specs.Widths.{encoded_widths}
use Rattle.write_widths.proofs.Same.{same-widths}
use Rattle.host_replies.proofs.Encodings.{Whole, fair-encoded, whole-as}
use Rattle.std.specs.Prelude.{Ok}

-- ---- the listing with the greatest width

pub sound-wide : (t : Listing) → Sound t → Sound (with_width most_bits t)
sound-wide t s = record {
  head = record {
    some-states = s.head.some-states;
    few-states = s.head.few-states;
    some-inputs = s.head.some-inputs;
    few-inputs = s.head.few-inputs;
    some-outputs = s.head.some-outputs;
    few-outputs = s.head.few-outputs;
    few_bits = omega arith;
  };
  few-rows = s.few-rows;
  table = s.table;
  row = λ k h. let r = s.row k h in record { input = r.input; group = r.group; some = r.some; next = r.next; one-next = r.one-next; outputs = r.outputs };
  plain = s.plain;
  few-dichotomies = s.few-dichotomies;
  asked = s.asked;
  dichotomy = s.dichotomy;
  said = s.said;
  state = s.state;
}

pub wide-coded : (t : Listing) → coding (with_width most_bits t) ≡ coded (build most_bits t.head.states (requirements t))
unfolding coding requirements pairs_and_groups
wide-coded t = refl

-- its code is held whole
pub whole_wide : (t : Listing) → Sound t → (e : Encoding) → Ok e ≡ encoded (with_width most_bits t) → Whole (with_width most_bits t) (build most_bits t.head.states (requirements t)) e
unfolding encoded_as
whole_wide t s e h =
    let u : Listing = with_width most_bits t in
    let w : Sound u = sound-wide t s in
    let c : Code = build most_bits t.head.states (requirements t) in
    subst (Whole u c) (sym (same-accepted (h ∙ fair-encoded u w ∙ ap (encoded_as u) (wide-coded t)))) (whole-as u w c (wide-coded t))

-- and its widths are the listing's own
pub same-listing : (t : Listing) → widths (with_width most_bits t) ≡ widths t
unfolding widths width_lines bits_of covered unmet requirements pairs_and_groups
same-listing t = refl

-- ---- the text

front : (t : Listing) → take (length (first_families t)) (all_families t) ≡ first_families t
unfolding all_families
front t = take-append_seam (first_families t) (dichotomy_words (dichotomies_of t))

module _ (t : Listing) (c : Code) (e : Encoding) (w : Whole t c e) (is : coding t ≡ coded c) (wide : t.head.width ≡ most_bits) where
  widest : take e.width e.bits ≡ bits_of t most_bits
  unfolding bits_of
  widest =
      w.holds.bits
      ∙ sym (ap (λ (c : Code). c.bits) (was-built t c is))
      ∙ ap (λ (k : ℕ). (build k t.head.states (requirements t)).bits) (ap (λ (b : Bool). cond b most_bits t.head.width) (ne_eqb t.head.width 0 (λ z. omega arith)) ∙ wide)

  pub text-is : encoded_widths (all_families t) (length (first_families t)) e ≡ widths t
  text-is =
      same-widths t (sound-fair t w.sound) (requirements-good t w.sound) w.sound.table w.sound.asked e widest (length (first_families t)) (front t)
