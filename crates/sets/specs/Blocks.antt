-- Two blocks of states and a bit, as code has them: masks, and what is asked of them by a few operations.
use Rattle.std.specs.Prelude.{Bool, ◌||◌, cond, ℕ, eqb, leb}
use Rattle.std.specs.Int.Bits.{bit_and, bit_or, bit_xor}
use Rattle.sets.specs.Sets.{size}

-- the members that must change for the block z to have value 0 and the block o value 1: those whose value is not whether they are in o
abbrev pub wrong : ℕ → ℕ → ℕ → ℕ
wrong z o b = bit_and (bit_or z o) (bit_xor b o)

-- one way round nothing must change
unfoldable pub met_mask : ℕ → ℕ → ℕ → Bool
met_mask f g b = eqb (wrong f g b) 0 || eqb (wrong g f b) 0

-- one way round at most one member must change
unfoldable pub near_mask : ℕ → ℕ → ℕ → Bool
near_mask f g b = leb (size (wrong f g b)) 1 || leb (size (wrong g f b)) 1

-- ---- what a flip does, where x must change one way round and y the other

-- nothing must change, one way round or the other
abbrev pub settled : ℕ → ℕ → Bool
settled x y = eqb x 0 || eqb y 0

-- m where it has at most one member, and nobody where it has more
abbrev pub lone : ℕ → ℕ
lone m = cond (leb (size m) 1) m 0

-- the states whose flip makes the requirement met: the only one that must change, one way round or the other
unfoldable pub makes : ℕ → ℕ → ℕ
makes x y = cond (settled x y) 0 (bit_or (lone x) (lone y))

-- the states whose flip breaks it: every member, if there are two or more
unfoldable pub breaks : ℕ → ℕ → ℕ
breaks x y = cond (settled x y) (cond (leb (size (bit_or x y)) 1) 0 (bit_or x y)) 0
