-- The gain table of a list of families, filled: both halves of each are put on.
use Rattle.std.specs.Prelude.{ℕ, true, List, [], ◌∷◌}
use Rattle.families.specs.Families.{without}
use Rattle.move_halves.specs.Halves.{side, back, ones, zeros, worth, halved}

unfoldable pub family_filled : ℕ → ℕ → ℕ → ℕ → List ℕ → List ℕ
unfolding halved
family_filled all flip out b t =
    let o : ℕ = without out all in
    halved true (worth out (zeros o b)) all (back all flip b) (zeros o b) (ones o b) (halved true (worth out (ones o b)) all (side all flip b) (ones o b) (zeros o b) t)

unfoldable pub filled_all : List ℕ → ℕ → List ℕ → List ℕ
unfolding family_filled
filled_all [] b t = t
filled_all (all ∷ []) b t = t
filled_all (all ∷ (flip ∷ [])) b t = t
filled_all (all ∷ (flip ∷ (out ∷ fs))) b t = filled_all fs b (family_filled all flip out b t)
