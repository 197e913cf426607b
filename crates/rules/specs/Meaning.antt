-- 02, requests 02 and 13: what a listing means, what a cover means to a reader of `.type fd`, and when the two agree.
use Rattle.std.specs.Prelude.{Bool, true, ◌&&◌, not, cond, List, [], ◌∷◌, ◌++◌, ℕ, ◌+◌, eqb, length, get_or}
use Rattle.std.specs.Int.Bits.{bit_and}
use Rattle.sets.specs.Sets.{has, every}
use Rattle.rules.specs.Text.{dash, one, field_at, split}
use Rattle.rules.specs.Listing.{all_rows, some}
use Rattle.rules.specs.Code.{code_of}
use Rattle.rules.specs.Cover.{says_one, says_dash, fires, vector, line_fires}
use Rattle.rules.specs.declared.Head.{Head}
use Rattle.rules.specs.declared.Pattern.{Pattern}
use Rattle.rules.specs.declared.Row.{Row}
use Rattle.rules.specs.declared.Listing.{Listing}

-- what is meant by one place: 1, free, or 0
pub data Meaning : Type 0 where
  on : Meaning
  free : Meaning
  off : Meaning

-- ---- a listing, at the input vector x and the state s

-- an output is 1 if a firing row says 1; free if none says 1 and some firing row says dash; otherwise 0
unfoldable pub output_means : Listing → ℕ → ℕ → ℕ → Meaning
unfolding some fires all_rows
output_means t x s j =
    cond (some (λ r. fires t.head r x s && says_one j r) (all_rows t)) on (cond (some (λ r. fires t.head r x s && says_dash j r) (all_rows t)) free off)

-- what is said of an output in an `OU` line, alone: 1, free at a dash, or 0
unfoldable pub said_means : Pattern → ℕ → Meaning
said_means p j = cond (eqb (has p.ones j) 1) on (cond (eqb (has p.dashes j) 1) free off)

-- the next state that the firing rows name, as a set of one or of none: the first that is named, for no two name different ones (6)
unfoldable pub named_by : Head → ℕ → ℕ → List Row → ℕ
unfolding fires
named_by h x s [] = 0
named_by h x s (r ∷ rs) = cond (fires h r x s && not (eqb r.next 0)) r.next (named_by h x s rs)

unfoldable pub next_means : Listing → ℕ → ℕ → ℕ
unfolding named_by all_rows
next_means t x s = named_by t.head x s (all_rows t)

-- a bit of the next code is that of the state named, and free where none is
unfoldable pub bit_means : Listing → ℕ → ℕ → ℕ → Meaning
unfolding next_means
bit_means t x s b = cond (eqb (next_means t x s) 0) free (cond (eqb (bit_and b (next_means t x s)) 0) off on)

-- ---- a cover, by its lines, at the digits of its inputs

-- some line that fires has the character c at a place of its second field. (Lines that are no rows fire nowhere: no digit takes a dot.)
unfoldable pub cover_says : List (List ℕ) → List ℕ → ℕ → ℕ → Bool
unfolding some line_fires split
cover_says ls ds place c = some (λ l. line_fires l ds && eqb (get_or (field_at l 1) place 0) c) ls

-- ---- the two agree

-- where a place is 1 a firing line says 1 and none a dash; where it is 0 none says 1 or dash; where it is free any may
unfoldable pub place_agrees : Meaning → List (List ℕ) → List ℕ → ℕ → Bool
unfolding cover_says
place_agrees on ls ds place = cover_says ls ds place one && not (cover_says ls ds place dash)
place_agrees free ls ds place = true
place_agrees off ls ds place = not (cover_says ls ds place one) && not (cover_says ls ds place dash)

-- at the input vector x and the state s: the bits of the next code, and behind them the outputs
unfoldable pub agrees_at : Listing → List ℕ → List (List ℕ) → ℕ → ℕ → Bool
unfolding place_agrees bit_means output_means every
agrees_at t bits ls x s =
    let ds : List ℕ = vector t.head.inputs x ++ code_of bits s in
    every (length bits) (λ k. place_agrees (bit_means t x s (get_or bits k 0)) ls ds k)
    && every t.head.outputs (λ j. place_agrees (output_means t x s j) ls ds (length bits + j))
