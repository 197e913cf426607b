-- Sets of states as masks: state s is a member of the mask m where digit s of m is 1.
use Rattle.std.specs.Prelude.{Bool, true, ◌&&◌, cond, List, [], ◌∷◌, ℕ, zero, suc, ◌+◌, ◌-◌, ◌/◌, ◌%◌, ◌^◌, eqb}
use Rattle.std.specs.Int.Bits.{bit_xor}
use Rattle.std.specs.Int.Count.{count_trailing_zeros}

-- 1 where state s is a member of m, and 0 where it is not
abbrev pub has : ℕ → ℕ → ℕ
has m s = m / 2 ^ s % 2

-- the set that has state s alone
abbrev pub only : ℕ → ℕ
only s = 2 ^ s

-- the set of all states below n
abbrev pub everyone : ℕ → ℕ
everyone n = 2 ^ n - 1

-- m with state s put in where it was out, and out where it was in
abbrev pub flip : ℕ → ℕ → ℕ
flip m s = bit_xor m (2 ^ s)

-- m without its lowest member, for sets of at most 64 states; the empty set stays as it is
unfoldable pub without_lowest : ℕ → ℕ
unfolding count_trailing_zeros
without_lowest m = cond (eqb m 0) 0 (flip m (count_trailing_zeros 64 m))

-- how many members m has: as many steps as m has digits, so that it computes on any numeral
unfoldable pub size_in : ℕ → ℕ → ℕ
size_in zero m = 0
size_in (suc d) zero = 0
size_in (suc d) (suc m) = suc m % 2 + size_in d (suc m / 2)

unfoldable pub size : ℕ → ℕ
unfolding size_in
size m = size_in m m

-- the sum of f over the states below n
unfoldable pub total : ℕ → (ℕ → ℕ) → ℕ
total zero f = 0
total (suc n) f = f 0 + total n (λ s. f (suc s))

-- whether p holds of every state below n
unfoldable pub every : ℕ → (ℕ → Bool) → Bool
every zero p = true
every (suc n) p = p 0 && every n (λ s. p (suc s))

-- n states in order, the first of them a
unfoldable pub states_from : ℕ → ℕ → List ℕ
states_from a zero = []
states_from a (suc n) = a ∷ states_from (suc a) n
