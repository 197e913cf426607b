-- A list in the first places of an array.
use Rattle.std.specs.Prelude.{List, ◌++◌, ℕ, ◌-◌, length, replicate}

-- filled up to w places
abbrev pub padded : {A : Type 0} → ℕ → A → List A → List A
padded w v l = l ++ replicate (w - length l) v
