-- 02, request 10: a code and a cover from elsewhere are checked. `OK` says that the codes are distinct, that every group requirement is met, and that the
-- cover agrees with the listing at each input and state.
use Rattle.std.specs.Prelude.{Bool, true, false, not, List, [], ◌∷◌, ◌++◌, map, ℕ, zero, suc, ◌+◌, ◌^◌, take, Option, Some, None, Ok, Err}
use Rattle.sets.specs.Sets.{states_from}
use Rattle.rules.specs.Text.{bytes, lf, space, split, lines_of, decimal}
use Rattle.rules.specs.Listing.{reading}
use Rattle.rules.specs.Requirements.{pairs_and_groups}
use Rattle.rules.specs.Code.{unmet_from}
use Rattle.rules.specs.Report.{unmet_line}
use Rattle.rules.specs.Meaning.{agrees_at}
use Rattle.rules.specs.Least.{turned}
use Rattle.rules.specs.Answers.{Reply, says, refuses, on_reading}
use Rattle.rules.specs.CheckTexts.{bit_in, codes_reading, cover_reading}
use Rattle.rules.specs.declared.Listing.{Listing}
use Rattle.rules.specs.declared.CodeTable.{CodeTable}
use Rattle.rules.specs.declared.Fault.{Fault}

-- the bits of some codes of n states
unfoldable pub bits_of : ℕ → CodeTable → List ℕ
unfolding bit_in states_from
bits_of n c = map (λ k. bit_in k (take n c.table)) (states_from 0 c.width)

-- ---- where the cover does not agree

-- at the state s and the inputs that v is as a binary number, the leftmost input its highest digit
unfoldable pub fails : Listing → List ℕ → List (List ℕ) → ℕ → ℕ → Bool
unfolding agrees_at turned
fails t bits ls s v = not (agrees_at t bits ls (turned t.head.inputs v) s)

-- of k numbers from a on, the lowest that has p
unfoldable pub lowest_from : (ℕ → Bool) → ℕ → ℕ → Option ℕ
lowest_from p a zero = None
lowest_from p a (suc k) = elim (p a) [ true ↦ Some a | false ↦ lowest_from p (suc a) k ]

-- a fault at that state and input
abbrev pub fault_at : ℕ → ℕ → Option Fault
fault_at s v = Some (record { state = record { 0 = s }; input = v })

-- of k states from s on the lowest where it fails, and for it the lowest such input
unfoldable pub fault_from : (ℕ → ℕ → Bool) → ℕ → ℕ → ℕ → Option Fault
unfolding lowest_from
fault_from p i s zero = None
fault_from p i s (suc k) = elim (lowest_from (p s) 0 (2 ^ i)) [ Some v ↦ fault_at s v | None ↦ fault_from p i (suc s) k ]

unfoldable pub fault_of : Listing → List ℕ → List (List ℕ) → Option Fault
unfolding fails fault_from
fault_of t bits ls = fault_from (fails t bits ls) t.head.inputs 0 t.head.states

-- ---- the answer

-- `OK`, or `AT state input`
unfoldable pub fault_line : Option Fault → List ℕ
unfolding decimal
fault_line (Some f) = bytes "AT " ++ (decimal f.state.0 ++ (space ∷ (decimal f.input ++ (lf ∷ []))))
fault_line None = bytes "OK\n"

-- `UN` and the lowest pair or group requirement that is unmet goes first
unfoldable pub check_line : List ℕ → Option Fault → List ℕ
unfolding unmet_line fault_line
check_line [] f = fault_line f
check_line (r ∷ rs) f = unmet_line (record { 0 = r })

unfoldable pub check_text : Listing → List ℕ → List (List ℕ) → List ℕ
unfolding unmet_from pairs_and_groups fault_of check_line
check_text t bits ls = check_line (unmet_from 0 t.head.states bits (pairs_and_groups t)) (fault_of t bits ls)

-- the cover has as many inputs as the listing has inputs and the codes have bits, and as many outputs as the codes have bits and the listing has outputs
unfoldable pub check_cover : Listing → CodeTable → List (List ℕ) → Reply
unfolding cover_reading check_text bits_of
check_cover t c ls = elim (cover_reading (t.head.inputs + c.width) (c.width + t.head.outputs) ls) [
  | Ok _ ↦ says (check_text t (bits_of t.head.states c) ls)
  | Err why ↦ refuses why.refusal why.line
]

-- the codes are read before the cover
unfoldable pub check_codes : Listing → List (List ℕ) → List (List ℕ) → Reply
unfolding codes_reading check_cover
check_codes t codes ls =
    elim (codes_reading t.head.states codes) [ Ok c ↦ check_cover t c ls | Err why ↦ refuses why.refusal why.line ]

unfoldable pub check_reply : List ℕ → List ℕ → List ℕ → Reply
unfolding split reading check_codes
check_reply listing codes cover = on_reading (reading listing) (λ t. check_codes t (lines_of codes) (lines_of cover))
