-- What the encoders answer for a sound listing: its code, or its least code, held whole and within bounds, or the refusal.
use mathlib.Core.Path.{◌≡◌, refl, sym, ap, subst}
use mathlib.Core.Bool.{true}
use mathlib.Core.List.{List}
use Prim.Native.Nat.{ℕ, ◌-◌, ◌^◌, ◌≤◌, ◌<◌}
use native.Mathlib.Omega.{arith}
use lib.ListN.{length, replicate, length-map}
use lib.Seq.{take-append_seam}
use Rattle.rules.specs.Limits.{most_bits}
use Rattle.rules.specs.Requirements.{requirements}
use Rattle.rules.specs.Code.{Code, coded, coding}
use Rattle.rules.specs.Least.{column, least_coding}
use Rattle.rules.specs.declared.Listing.{Listing}
use Rattle.rules.specs.declared.Encoding.{Encoding}
use Rattle.rules.proofs.Sound.{Sound}
use Rattle.rules.proofs.Built.{most_of, most-few, was-built}
use Rattle.rules.proofs.SoundCode.{code-built}
use Rattle.rules.proofs.Least.{least-coded}
use Rattle.move_table.proofs.Ready.{sound-ready}
use Rattle.code_fair.proofs.FairListings.{sound-fair}
use Rattle.code_encoding.specs.Encode.{encoding_of, encoded_as, encoded}
use Rattle.code_encoding.proofs.Answered.{encoded-is}
use Rattle.code_least.specs.Encode.{least_encoded}
use Rattle.code_least.proofs.Answers.{least-is}
use Rattle.bit_next.proofs.Counters.{FewIn, few-counted}
use Rattle.write_report.specs.Report.{Holds}

-- an answer that holds a code of a sound listing
pub record Whole (t : Listing) (code : Code) (e : Encoding) : Type 0 where
  pub sound : Sound t
  pub holds : Holds t code e
  pub narrow : e.width ≤ most_bits
  pub few-passes : e.passes < 2 ^ 64
  pub few-looks : e.looks < 2 ^ 64

pub held : (t : Listing) (c : Code) → Holds t c (encoding_of t c)
unfolding encoding_of
held t c = record {
  width = refl;
  bits = take-append_seam c.bits (replicate (most_bits - length c.bits) 0);
  asked = refl;
  unmet = refl;
  passes = refl;
  looks = refl;
}

module _ (t : Listing) (s : Sound t) where
  few_bits : most_of t ≤ most_bits
  few_bits = most-few t s.head.few_bits

  module _ (c : Code) (e : coding t ≡ coded c) where
    narrow : length c.bits ≤ most_bits
    narrow = omega (arith, (code-built t s c e).few, few_bits)

    counters : FewIn (most_of t) c
    counters = subst (FewIn (most_of t)) (was-built t c e) (few-counted (most_of t) t.head.states (requirements t) (sound-ready t s))

    pub whole-as : Whole t c (encoding_of t c)
    unfolding encoding_of
    whole-as = record {
      sound = s;
      holds = held t c;
      narrow = narrow;
      few-passes = omega (arith, counters.passes, few_bits);
      few-looks = omega (arith, counters.looks, few_bits);
    }

  pub fair-encoded : encoded t ≡ encoded_as t (coding t)
  fair-encoded = sym (encoded-is t true (sound-fair t s))

  -- the least code has at most 5 bits, and took no pass and no look
  pub whole-least : (c : Code) → least_coding t ≡ coded c → Whole t c (encoding_of t c)
  unfolding encoding_of
  whole-least c e =
      let l = least-coded t c e in
      record {
        sound = s;
        holds = held t c;
        narrow = omega (arith, ap (λ (b : List ℕ). length b) l.bits, length-map l.columns (column t.head.states), l.least.few);
        few-passes = omega (arith, l.passes);
        few-looks = omega (arith, l.looks);
      }

  pub fair-least : least_encoded t ≡ encoded_as t (least_coding t)
  fair-least = sym (least-is t true (sound-fair t s))
