-- Writing into a lent buffer: what the buffer holds after, and the place behind the text.
use Rattle.std.specs.Prelude.{◌≡◌, cond, List, [], ◌∷◌, map, ℕ, ◌+◌, ◌≤◌, min, eqb, length, set}
use Rattle.std.specs.Int.Bits.{bit_and}
use Rattle.sets.specs.Sets.{has, states_from}
use Rattle.rules.specs.Text.{nought, one}

-- the largest place that a number of the machine can say
abbrev pub last_place : ℕ
last_place = 18446744073709551615

-- the bytes, one after the other from `at` on; one that falls behind the buffer's end is lost
unfoldable pub put : List ℕ → ℕ → List ℕ → List ℕ
put d at [] = d
put d at (x ∷ xs) = put (set d at x) (at + 1) xs

-- the text bs was written to the buffer d from `at` on: r is the place behind it, and e is what the buffer then holds
pub record Wrote (d : List ℕ) (at : ℕ) (bs : List ℕ) (r : ℕ) (e : List ℕ) : Type 0 where
  pub ends : r ≡ min (at + length bs) last_place
  pub holds : e ≡ put d at bs
  -- a buffer's length is a number of the machine, so what is lost behind the last place was to be lost
  pub within : length d ≤ last_place

-- the lowest n digits of m as characters, the lowest first
unfoldable pub digits_text : ℕ → ℕ → List ℕ
unfolding states_from
digits_text m n = map (λ s. nought + has m s) (states_from 0 n)

-- a set's value in the bit b: 0 or 1 where its members all have that value, `mixed` where they differ
unfoldable pub value_at : ℕ → ℕ → ℕ → ℕ
value_at g mixed b = cond (eqb (bit_and b g) 0) nought (cond (eqb (bit_and b g) g) one mixed)

-- and in each bit
unfoldable pub values_text : List ℕ → ℕ → ℕ → List ℕ
unfolding value_at
values_text bits g mixed = map (value_at g mixed) bits
