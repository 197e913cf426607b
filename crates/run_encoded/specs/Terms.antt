-- The rows of a cover as masks of bits, and the next code that they give, one after the other.
use Rattle.std.specs.Prelude.{Bool, ◌&&◌, not, cond, List, [], ◌∷◌, ℕ, ◌+◌, ◌*◌, eqb, leb, ltb, length, set, replicate}
use Rattle.std.specs.Int.Bits.{bit_and, bit_or}
use Rattle.sets.specs.Sets.{has, only, every, everyone}
use Rattle.rules.specs.Limits.{most_states, most_bits, most_lines}
use Rattle.rules.specs.Text.{digit}
use Rattle.rules.specs.Listing.{no_pattern, all_rows}
use Rattle.rules.specs.Cover.{is_left_out}
use Rattle.rules.specs.declared.Head.{Head}
use Rattle.rules.specs.declared.Row.{Row}
use Rattle.rules.specs.declared.Listing.{Listing}
use Rattle.run_inputs.specs.Inputs.{takes_input}
use Rattle.run_encoded.specs.declared.Term.{Term}
use Rattle.run_encoded.specs.declared.Terms.{Terms}

-- ---- a row

-- some state of m has value 1 in the bit b, and every one has
unfoldable pub some_at : ℕ → ℕ → ℕ
some_at m b = digit (not (eqb (bit_and b m) 0))

unfoldable pub all_at : ℕ → ℕ → ℕ
all_at m b = digit (eqb (bit_and b m) m)

-- the mask whose digit k is told by bit k
unfoldable pub mask_of : (ℕ → ℕ) → List ℕ → ℕ
mask_of f [] = 0
mask_of f (b ∷ bs) = mask_of f bs * 2 + f b

-- the members of its group
abbrev pub members : Head → Row → ℕ
members h r = bit_and r.group (everyone h.states)

-- A face has 0 where no member has value 1, and 1 where there is one and all have it: it takes the codes between.
unfoldable pub term_of : Head → List ℕ → Row → Term
unfolding some_at all_at mask_of
term_of h bits r = record {
  input = r.input;
  low = bit_and (mask_of (some_at (members h r)) bits) (mask_of (all_at (members h r)) bits);
  high = mask_of (some_at (members h r)) bits;
  next = mask_of (some_at r.next) bits;
}

-- ---- the rows

abbrev pub no_term : Term
no_term = record { input = no_pattern; low = 0; high = 0; next = 0 }

unfoldable pub no_terms : Terms
no_terms = record { count = 0; table = replicate most_lines no_term }

-- with one more, if it has a line
unfoldable pub terms_with : Head → List ℕ → Terms → Row → Terms
unfolding is_left_out term_of
terms_with h bits ts r = cond (is_left_out h bits r) ts (record { count = ts.count + 1; table = set ts.table ts.count (term_of h bits r) })

unfoldable pub terms_by : Head → List ℕ → Terms → List Row → Terms
unfolding terms_with
terms_by h bits ts [] = ts
terms_by h bits ts (r ∷ rs) = terms_by h bits (terms_with h bits ts r) rs

-- by no more bits than there can be
unfoldable pub terms_for : Listing → List ℕ → Terms
unfolding terms_by no_terms all_rows
terms_for t bits = cond (leb (length bits) most_bits) (terms_by t.head bits no_terms (all_rows t)) no_terms

-- the code of the state s by them
unfoldable pub code_for : List ℕ → ℕ → ℕ
unfolding mask_of some_at
code_for bits s = cond (leb (length bits) most_bits) (cond (ltb s most_states) (mask_of (some_at (only s)) bits) 0) 0

-- ---- the next code

-- a code of w bits is between the lowest and the highest
unfoldable pub takes_code : ℕ → Term → ℕ → Bool
unfolding every
takes_code w q code = every w (λ k. leb (has q.low k) (has code k) && leb (has code k) (has q.high k))

-- a row fires at an input vector and a code
unfoldable pub term_fires : ℕ → ℕ → ℕ → ℕ → Term → Bool
unfolding takes_input takes_code
term_fires i w x code q = takes_input i q.input x && takes_code w q code

unfoldable pub code_with : ℕ → ℕ → ℕ → ℕ → ℕ → Term → ℕ
unfolding term_fires
code_with i w x code given q = cond (term_fires i w x code q) (bit_or given q.next) given

unfoldable pub code_by : ℕ → ℕ → ℕ → ℕ → ℕ → List Term → ℕ
unfolding code_with
code_by i w x code given [] = given
code_by i w x code given (q ∷ qs) = code_by i w x code (code_with i w x code given q) qs
