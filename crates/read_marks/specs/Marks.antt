-- A mark as a fixed string of two bytes.
use Rattle.std.specs.Prelude.{List, [], ◌∷◌, ℕ, get_or}

-- its two bytes
abbrev pub two_of : List ℕ → List ℕ
two_of m = get_or m 0 0 ∷ (get_or m 1 0 ∷ [])
