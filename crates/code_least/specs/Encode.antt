-- What the encoder of small machines answers: 02's least code, or the refusal.
use Rattle.std.specs.Prelude.{cond, List, ℕ, ◌≤◌, leb, length, take, Option, Some, None, Ok, Result}
use Rattle.sets.specs.Places.{padded}
use Rattle.rules.specs.Limits.{most_bits, most_small, most_small_asked}
use Rattle.rules.specs.Least.{turned, bits_for, First, first, none, least, least_coding}
use Rattle.rules.specs.declared.Requirement.{Requirement}
use Rattle.rules.specs.declared.Listing.{Listing}
use Rattle.rules.specs.declared.Encoding.{Encoding}
use Rattle.rules.specs.declared.Refusal.TheVariants.{Limit, NoShortCode}
use Rattle.code_fair.specs.Fair.{fair}
use Rattle.code_encoding.specs.Encode.{encoded_as}
use Rattle.rules.specs.Refusals.{refused}
use Rattle.rules.specs.declared.Refused.{Refused}

-- the code of n states with these columns, which leaves nothing of what is asked unmet
unfoldable pub coded_as : ℕ → ℕ → List ℕ → Encoding
unfolding turned
coded_as n asked code = record {
  width = length code;
  bits = padded most_bits 0 (bits_for n code);
  asked = asked;
  unmet = 0;
  passes = 0;
  looks = 0;
}

-- what a search found in the first of some places
unfoldable pub found_as : ℕ → ℕ → Option ℕ → List ℕ → Result Encoding Refused
unfolding coded_as
found_as n asked (Some w) places = Ok (coded_as n asked (take w places))
found_as n asked None places = refused NoShortCode 0

-- the places are there
abbrev pub Within : Option ℕ → List ℕ → Type 0
Within (Some w) places = (w ≤ length places) × (w ≤ most_bits)
Within None places = Unit {0}

unfoldable pub answer_of : ℕ → ℕ → First → Result Encoding Refused
unfolding coded_as
answer_of n asked (first code) = Ok (coded_as n asked code)
answer_of n asked none = refused NoShortCode 0

-- of n states and some requirements
unfoldable pub small_encoded : ℕ → List Requirement → Result Encoding Refused
unfolding answer_of least
small_encoded n rs =
    cond (leb n most_small)
    (cond (leb (length rs) most_small_asked) (answer_of n (length rs) (least n rs)) (refused Limit 0))
    (refused Limit 0)

-- a listing that is not within the limits, as no reader gives one, is refused 2 at line 0
unfoldable pub least_encoded : Listing → Result Encoding Refused
unfolding fair encoded_as least_coding
least_encoded t = cond (fair t) (encoded_as t (least_coding t)) (refused Limit 0)
