-- The judgement of one requirement by its number, and whether any of some requirements is unmet.
use Rattle.rules.specs.declared.BitNumber.{BitNumber}
use Rattle.std.specs.Prelude.{Bool, cond, List, [], ◌∷◌, ℕ, zero, suc, leb, ltb, length, take, Option, None}
use Rattle.rules.specs.Requirements.{judgement}
use Rattle.rules.specs.Code.{unmet_from}
use Rattle.rules.specs.declared.Requirement.{Requirement}
use Rattle.rules.specs.declared.RequirementNumber.{RequirementNumber}
use Rattle.rules.specs.declared.Listing.{Listing}
use Rattle.rules.specs.declared.Encoding.{Encoding}
use Rattle.families.specs.Families.{requirements_in}
use Rattle.code_drawing.specs.Drawing.{all_families}

-- of the requirement with the number k; behind the list's end there is none to meet
unfoldable pub judgement_at : ℕ → List ℕ → List Requirement → ℕ → Option BitNumber
unfolding judgement
judgement_at n bits [] k = None
judgement_at n bits (r ∷ rs) zero = judgement n bits r
judgement_at n bits (r ∷ rs) (suc k) = judgement_at n bits rs k

-- of a listing and what the encoder answered; a set of states has 64 digits
unfoldable pub judged : Listing → Encoding → RequirementNumber → Option BitNumber
unfolding judgement_at requirements_in all_families
judged t e r = cond (ltb r.0 e.asked) (judgement_at 64 (take e.width e.bits) (requirements_in (all_families t)) r.0) None

-- no bit meets one of them
unfoldable pub some_unmet : List ℕ → List Requirement → Bool
unfolding unmet_from
some_unmet bits rs = leb 1 (length (unmet_from 0 64 bits rs))

unfoldable pub any_unmet : List ℕ → Encoding → Bool
unfolding some_unmet requirements_in
any_unmet fs e = some_unmet (take e.width e.bits) (requirements_in fs)
