-- The gain table: for each state a level, with `level` for a gain of 0, and what one requirement adds to it.
use Rattle.std.specs.Prelude.{Bool, ◌&&◌, ◌||◌, cond, List, [], ◌∷◌, ℕ, suc, ◌+◌, ◌%◌, ◌^◌, eqb}
use Rattle.std.specs.Int.Bits.{bit_or}
use Rattle.sets.specs.Sets.{has}
use Rattle.sets.specs.Blocks.{wrong, near_mask, makes, breaks}

-- a gain of 0, far from both ends of 32 digits
abbrev pub level : ℕ
level = 2147483648

-- one less, modulo 2 ^ 32
abbrev pub less : ℕ
less = 4294967295

-- the levels from state k on, with `by` added at each member of m
unfoldable pub raised : ℕ → ℕ → ℕ → List ℕ → List ℕ
raised by m k [] = []
raised by m k (v ∷ vs) = cond (eqb (has m k) 1) ((v + by) % 2 ^ 32) v ∷ raised by m (suc k) vs

-- with `made` added where a flip makes the requirement with the blocks f and g met at the bit b, `broken` where it breaks it
unfoldable pub weighed : ℕ → ℕ → ℕ → ℕ → ℕ → List ℕ → List ℕ
unfolding raised makes breaks
weighed made broken f g b t = raised made (makes (wrong f g b) (wrong g f b)) 0 (raised broken (breaks (wrong f g b) (wrong g f b)) 0 t)

-- what the requirement adds at the bit b, and taking it off
abbrev pub shared : ℕ → ℕ → ℕ → List ℕ → List ℕ
shared f g b t = weighed 1 less f g b t

abbrev pub unshared : ℕ → ℕ → ℕ → List ℕ → List ℕ
unshared f g b t = weighed less 1 f g b t

-- the move of s, from the bit b to the bit a, looks at the requirement
unfoldable pub look_mask : ℕ → ℕ → ℕ → ℕ → ℕ → Bool
unfolding near_mask
look_mask f g b a s = eqb (has (bit_or f g) s) 1 && (near_mask f g b || near_mask f g a)

-- the table after the move, for one requirement: changed only where the move looks
unfoldable pub stepped : ℕ → ℕ → ℕ → ℕ → ℕ → List ℕ → List ℕ
unfolding look_mask weighed
stepped f g b a s t = cond (look_mask f g b a s) (shared f g a (unshared f g b t)) t
