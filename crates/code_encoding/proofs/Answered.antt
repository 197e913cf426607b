-- What is answered for a listing: its code where it is fair, and else that it is not within the limits.
use mathlib.Core.Path.{◌≡◌, sym, ap}
use mathlib.Core.Bool.{Bool, cond}
use Rattle.rules.specs.Code.{coding}
use Rattle.rules.specs.declared.Listing.{Listing}
use Rattle.rules.specs.declared.Refusal.TheVariants.{Limit}
use Rattle.code_fair.specs.Fair.{fair}
use Rattle.code_encoding.specs.Encode.{encoded_as, encoded}
use Rattle.rules.specs.Refusals.{refused}

pub encoded-is : (t : Listing) (x : Bool) → fair t ≡ x → cond x (encoded_as t (coding t)) (refused Limit 0) ≡ encoded t
unfolding encoded
encoded-is t x e = sym (ap (λ (b : Bool). cond b (encoded_as t (coding t)) (refused Limit 0)) e)
