-- What the encoder answers for a listing: 01's code, with how many requirements it leaves unmet.
use Rattle.std.specs.Prelude.{cond, length, replicate, Ok, Result}
use Rattle.sets.specs.Places.{padded}
use Rattle.rules.specs.Limits.{most_bits}
use Rattle.rules.specs.Requirements.{requirements}
use Rattle.rules.specs.Code.{Code, Coding, coded, uncoded, coding, unmet}
use Rattle.rules.specs.declared.Listing.{Listing}
use Rattle.rules.specs.declared.Encoding.{Encoding}
use Rattle.rules.specs.declared.Refusal.TheVariants.{Limit}
use Rattle.code_fair.specs.Fair.{fair}
use Rattle.rules.specs.Refusals.{refused}
use Rattle.rules.specs.declared.Refused.{Refused}

-- where nothing is to be coded
unfoldable pub no_code : Encoding
no_code = record { width = 0; bits = replicate most_bits 0; asked = 0; unmet = 0; passes = 0; looks = 0 }

-- a listing's code, and how much it leaves unmet
unfoldable pub encoding_of : Listing → Code → Encoding
unfolding unmet requirements
encoding_of t c = record {
  width = length c.bits;
  bits = padded most_bits 0 c.bits;
  asked = length (requirements t);
  unmet = length (unmet t c.bits);
  passes = c.passes;
  looks = c.looks;
}

unfoldable pub encoded_as : Listing → Coding → Result Encoding Refused
unfolding encoding_of
encoded_as t (coded c) = Ok (encoding_of t c)
encoded_as t (uncoded r) = refused r 0

-- a listing that is not within the limits, as no reader gives one, is refused 2 at line 0
unfoldable pub encoded : Listing → Result Encoding Refused
unfolding fair encoded_as coding
encoded t = cond (fair t) (encoded_as t (coding t)) (refused Limit 0)
