-- After a bit: which requirements of a family, and of a list of families, stay live.
use Rattle.std.specs.Prelude.{ℕ, ◌+◌, Bool, cond, not, ◌||◌, List, [], ◌∷◌, ◌++◌, length, drop, ◌==◌, slice_index}
use Rattle.sets.specs.Sets.{size}
use Rattle.families.specs.Families.{without, laid}
use Rattle.move_halves.specs.Halves.{side, back, ones, zeros}

-- of the states o outside, those that are not right in a half that is met; x and y must change, one way round and the other
unfoldable pub left_by : ℕ → ℕ → ℕ → ℕ → ℕ
left_by x y o b = cond (x == 0) (cond (y == 0) 0 (zeros o b)) (cond (y == 0) (ones o b) o)

-- the states outside whose requirements the bit b does not meet
unfoldable pub left_of : ℕ → ℕ → ℕ → ℕ → ℕ
unfolding left_by size
left_of all flip out b = left_by (size (side all flip b)) (size (back all flip b)) (without out all) b

-- some requirement is live: of a family that is one requirement, that one, and else one of a state that is left
unfoldable pub stays_by : ℕ → ℕ → ℕ → ℕ → Bool
stays_by x y out left = cond (out == 0) (not (x == 0 || y == 0)) (not (left == 0))

unfoldable pub stays_of : ℕ → ℕ → ℕ → ℕ → Bool
unfolding stays_by left_of size
stays_of all flip out b = stays_by (size (side all flip b)) (size (back all flip b)) out (left_of all flip out b)

-- the families of which something stays live, each with the states outside that are left
unfoldable pub left_families : ℕ → List ℕ → List ℕ
unfolding stays_of left_of
left_families b [] = []
left_families b (all ∷ []) = []
left_families b (all ∷ (flip ∷ [])) = []
left_families b (all ∷ (flip ∷ (out ∷ fs))) = let rest = left_families b fs in cond (stays_of all flip out b) (all ∷ (flip ∷ (left_of all flip out b ∷ rest))) rest

-- they move to the front, in their order; what stands behind them is as it was
unfoldable pub sifted_families : ℕ → List ℕ → List ℕ
unfolding left_families
sifted_families b fs = left_families b fs ++ drop (length (left_families b fs)) fs

-- ---- one family of the list: that from place i on, with j words of live ones in front of it

abbrev pub left_at : ℕ → ℕ → List ℕ → ℕ
left_at b i fs = left_of (slice_index fs i) (slice_index fs (i + 1)) (slice_index fs (i + 2)) b

abbrev pub stays_at : ℕ → ℕ → List ℕ → Bool
stays_at b i fs = stays_of (slice_index fs i) (slice_index fs (i + 1)) (slice_index fs (i + 2)) b

abbrev pub words_behind : ℕ → ℕ → ℕ → List ℕ → ℕ
words_behind b i j fs = cond (stays_at b i fs) (j + 3) j

abbrev pub moved_family : ℕ → ℕ → ℕ → List ℕ → List ℕ
moved_family b i j fs = cond (stays_at b i fs) (laid j (slice_index fs i) (slice_index fs (i + 1)) (left_at b i fs) fs) fs
