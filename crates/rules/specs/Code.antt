-- 01, "One bit" and refusal 7: the code, bit by bit, and the requirements that it leaves unmet.
use Rattle.std.specs.Prelude.{true, false, ◌&&◌, not, cond, List, [], ◌∷◌, map, ℕ, zero, suc, ◌+◌, eqb, length}
use Rattle.sets.specs.Sets.{has}
use Rattle.rules.specs.Limits.{most_bits}
use Rattle.rules.specs.Requirements.{met, met_by_code, requirements}
use Rattle.rules.specs.OneBit.{Bit, new_bit}
use Rattle.rules.specs.declared.Requirement.{Requirement}
use Rattle.rules.specs.declared.Listing.{Listing}
use Rattle.rules.specs.declared.Refusal.{Refusal}
use Rattle.rules.specs.declared.Refusal.TheVariants.{TooWide}

-- of the requirements, those that the bit b does not meet: they stay live
unfoldable pub unmet_by : ℕ → ℕ → List Requirement → List Requirement
unfolding met
unmet_by n b [] = []
unmet_by n b (r ∷ rs) = let rest = unmet_by n b rs in elim (met n r b) [ true ↦ rest | false ↦ r ∷ rest ]

-- a code: its bits in the order built, first bit leftmost, with the passes begun and the looks, both summed over all bits
pub record Code : Type 0 where
  pub bits : List ℕ
  pub passes : ℕ
  pub looks : ℕ

abbrev pub no_code : Code
no_code = record { bits = []; passes = 0; looks = 0 }

-- a bit in front of those that follow it
abbrev pub joined : Bit → Code → Code
joined b c = record { bits = b.bit ∷ c.bits; passes = b.passes + c.passes; looks = b.looks + c.looks }

-- At most k bits more, each for the requirements that are then live. With none live, no bit is added.
unfoldable pub build : ℕ → ℕ → List Requirement → Code
unfolding new_bit unmet_by
build zero n rs = no_code
build (suc k) n [] = no_code
build (suc k) n (r ∷ rs) = let b : Bit = new_bit n (r ∷ rs) in joined b (build k n (unmet_by n b.bit (r ∷ rs)))

-- the numbers of the requirements that no bit meets, ascending; the first of the list has the number k
unfoldable pub unmet_from : ℕ → ℕ → List ℕ → List Requirement → List ℕ
unfolding met_by_code
unmet_from k n bits [] = []
unmet_from k n bits (r ∷ rs) = let rest = unmet_from (suc k) n bits rs in elim (met_by_code n bits r) [ true ↦ rest | false ↦ k ∷ rest ]

unfoldable pub unmet : Listing → List ℕ → List ℕ
unfolding unmet_from requirements
unmet t bits = unmet_from 0 t.head.states bits (requirements t)

-- what coding answers: a code, or the refusal
pub data Coding : Type 0 where
  coded : Code → Coding
  uncoded : Refusal → Coding

-- width 0, and 64 bits leave something unmet: 7
abbrev pub wide_enough : Listing → Code → Coding
unfolding unmet
wide_enough t c = cond (eqb t.head.width 0 && not (eqb (length (unmet t c.bits)) 0)) (uncoded TooWide) (coded c)

-- width 0: go on until every requirement is met; width 1..64: stop at that many bits
unfoldable pub coding : Listing → Coding
unfolding build unmet requirements
coding t = wide_enough t (build (cond (eqb t.head.width 0) most_bits t.head.width) t.head.states (requirements t))

-- ---- the code of a state: its value in each bit

abbrev pub code_of : List ℕ → ℕ → List ℕ
code_of bits s = map (λ b. has b s) bits
