-- The live pairs, from the bits built so far: the requirement ({i},{j}), i < j, is live where every bit has one value on both. Of more than 64 states the
-- first 64 count.
use Rattle.std.specs.Prelude.{cond, List, [], ◌∷◌, ℕ, ◌+◌, ◌-◌, ◌%◌, ◌^◌, min, eqb, get_or, set}
use Rattle.sets.specs.Sets.{has, flip, everyone, size, states_from}
use Rattle.rules.specs.Requirements.{pairs}
use Rattle.rules.specs.declared.Requirement.{Requirement}
use Rattle.rules.proofs.Unmet.{unmet_in}
use Rattle.move_table.specs.Table.{raised}
use Rattle.move_halves.specs.Halves.{ones, zeros}

-- of the pairs of n states, in their order, those that no bit meets
unfoldable pub live_pairs : ℕ → List ℕ → List Requirement
unfolding unmet_in pairs states_from
live_pairs n bits = unmet_in (min n 64) bits (pairs (states_from 0 (min n 64)))

-- those of the states p that have not the value of s at the bit b, and those that have it
abbrev pub unlike_of : ℕ → ℕ → ℕ → ℕ
unlike_of p b s = cond (eqb (has b s) 1) (zeros p b) (ones p b)

abbrev pub like_of : ℕ → ℕ → ℕ → ℕ
like_of p b s = cond (eqb (has b s) 1) (ones p b) (zeros p b)

-- ---- the partners of a state: those with which it makes a live pair

-- before there is a bit: all the states but s
unfoldable pub others_of : ℕ → ℕ → ℕ
others_of n s = cond (eqb (has (everyone (min n 64)) s) 1) (flip (everyone (min n 64)) s) 0

-- of the states p, those on which each of the bits has the value that it has on s
unfoldable pub alike_in : List ℕ → ℕ → ℕ → ℕ
alike_in [] s p = p
alike_in (b ∷ bits) s p = alike_in bits s (like_of p b s)

unfoldable pub partners_of : ℕ → List ℕ → ℕ → ℕ
unfolding alike_in others_of
partners_of n bits s = alike_in bits s (others_of n s)

-- ---- the move of s, of which these partners have its value and those have not

-- 2 less for each partner of its value, whose flip will no more part the pair, 2 more for each other; the moved state's own change by half
abbrev pub parted : ℕ → ℕ → List ℕ → List ℕ
parted like unlike t = raised 2 unlike 0 (raised 4294967294 like 0 t)

unfoldable pub pairs_put : ℕ → ℕ → ℕ → List ℕ → List ℕ
unfolding raised size
pairs_put like unlike s t = set (parted like unlike t) s ((get_or (parted like unlike t) s 0 + (size unlike + (2 ^ 32 - size like)) % 2 ^ 32) % 2 ^ 32)

-- at the bit b, where p are its partners
unfoldable pub pairs_swayed : ℕ → ℕ → ℕ → List ℕ → List ℕ
unfolding pairs_put
pairs_swayed p b s t = cond (eqb (has b s) 1) (pairs_put (ones p b) (zeros p b) s t) (pairs_put (zeros p b) (ones p b) s t)

-- ---- the table filled: state i, of which p are the partners, gains by those of its value, and loses by the others
abbrev pub pairs_added : ℕ → ℕ → ℕ → List ℕ → List ℕ
pairs_added b i p t = set t i ((get_or t i 0 + (size (like_of p b i) + (2 ^ 32 - size (unlike_of p b i))) % 2 ^ 32) % 2 ^ 32)
