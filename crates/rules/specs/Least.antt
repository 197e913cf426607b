-- 02, request 11: the fewest bits, for small machines. Of the shortest codes that meet every requirement, the one whose columns come first.
use Rattle.std.specs.Prelude.{Bool, true, false, ◌&&◌, cond, List, [], ◌∷◌, ◌++◌, map, ℕ, zero, suc, ◌+◌, ◌-◌, ◌*◌, ◌^◌, leb, ltb, eqb, length}
use Rattle.sets.specs.Sets.{has, states_from}
use Rattle.rules.specs.Limits.{most_bytes, most_small, most_small_asked, most_small_bits}
use Rattle.rules.specs.Text.{split, lines_of}
use Rattle.rules.specs.Listing.{blank, goes, ends, stops, line_step, reading, Reading}
use Rattle.rules.specs.Requirements.{requirements}
use Rattle.rules.specs.Code.{Coding, coded, uncoded, unmet_from}
use Rattle.rules.specs.Report.{report}
use Rattle.rules.specs.Answers.{Reply, on_reading, report_of, cover_of}
use Rattle.rules.specs.declared.Requirement.{Requirement}
use Rattle.rules.specs.declared.Listing.{Listing}
use Rattle.rules.specs.declared.Refusal.TheVariants.{Limit, NoShortCode}
use Rattle.rules.specs.Refusals.{refused}

-- ---- columns

-- k digits of v as the values of k states, the first of them at the highest digit
unfoldable pub turned : ℕ → ℕ → ℕ
turned zero v = 0
turned (suc k) v = turned k v * 2 + has v k

-- a column is a number below 2^(n - 1): its bit has state 0 at 0, and state 1 at the number's highest digit
abbrev pub column : ℕ → ℕ → ℕ
column n v = turned (n - 1) v * 2

-- how many columns there are, the constant one too
abbrev pub columns_of : ℕ → ℕ
columns_of n = 2 ^ (n - 1)

-- ---- codes, as their columns

abbrev pub bits_for : ℕ → List ℕ → List ℕ
bits_for n code = map (column n) code

-- each of the columns in front of each of the codes
unfoldable pub in_front : List ℕ → List (List ℕ) → List (List ℕ)
in_front [] codes = []
in_front (v ∷ vs) codes = map (λ code. v ∷ code) codes ++ in_front vs codes

-- all codes of w columns, each a number below c, compared first column first
unfoldable pub codes_of : ℕ → ℕ → List (List ℕ)
unfolding in_front states_from
codes_of c zero = [] ∷ []
codes_of c (suc w) = in_front (states_from 0 c) (codes_of c w)

-- all codes of at most w columns, the shorter ones first
unfoldable pub codes_up_to : ℕ → ℕ → List (List ℕ)
unfolding codes_of
codes_up_to c zero = codes_of c zero
codes_up_to c (suc w) = codes_up_to c w ++ codes_of c (suc w)

-- ---- the least

-- the bits of a code meet every requirement: none is listed unmet
unfoldable pub meets_all : ℕ → List Requirement → List ℕ → Bool
unfolding turned unmet_from
meets_all n rs code = eqb (length (unmet_from 0 n (bits_for n code) rs)) 0

pub data First : Type 0 where
  first : List ℕ → First
  none : First

-- the first of some codes that has p, or none
unfoldable pub first_with : (List ℕ → Bool) → List (List ℕ) → First
first_with p [] = none
first_with p (code ∷ codes) = elim (p code) [ true ↦ first code | false ↦ first_with p codes ]

-- of all codes of at most 5 columns the first that meets everything
unfoldable pub least : ℕ → List Requirement → First
unfolding codes_up_to meets_all first_with
least n rs = first_with (meets_all n rs) (codes_up_to (columns_of n) most_small_bits)

-- ---- the code of a listing

-- passes and looks are 0; 16 where there is none
unfoldable pub coded_by : ℕ → First → Coding
unfolding turned
coded_by n (first code) = coded (record { bits = bits_for n code; passes = 0; looks = 0 })
coded_by n none = uncoded NoShortCode

abbrev pub is_small : Listing → Bool
unfolding requirements
is_small t = leb t.head.states most_small && leb (length (requirements t)) most_small_asked

-- more requirements are 2 at line 0; and so are more states, of a listing that the reader below did not read
unfoldable pub least_coding : Listing → Coding
unfolding coded_by least requirements
least_coding t = cond (is_small t) (coded_by t.head.states (least t.head.states (requirements t))) (uncoded Limit)

-- ---- the reading

-- of the lines, the first, which LF ends, is a head line without fault of its own that names more states than a small machine has
unfoldable pub begins_large : List (List ℕ) → Bool
unfolding line_step blank
begins_large [] = false
begins_large (l ∷ []) = false
begins_large (l ∷ (m ∷ ms)) = elim (line_step 1 blank l) [ goes t ↦ ltb most_small t.head.states | ends ↦ false | stops r ↦ false ]

-- more states are a fault of line 1, and so come before any of a later line
unfoldable pub small_reading : List ℕ → Reading
unfolding split begins_large reading
small_reading s = cond (leb (length s) most_bytes && begins_large (lines_of s)) (refused Limit 1) (reading s)

-- ---- what is said of a listing: the report of its least code, and the cover in it

unfoldable pub least_reply : List ℕ → Reply
unfolding small_reading report least_coding
least_reply s = on_reading (small_reading s) (λ t. report_of t (least_coding t))

unfoldable pub least_cover_reply : List ℕ → Reply
unfolding small_reading cover_of least_coding
least_cover_reply s = on_reading (small_reading s) (λ t. cover_of t (least_coding t))
