-- What a line of codes says, as it is read: the code, or that the line is a bad one.
use Rattle.std.specs.Prelude.{Bool, cond, List, [], ◌∷◌, map, ℕ, Option, Some, None}
use Rattle.sets.specs.Sets.{states_from}
use Rattle.rules.specs.Text.{dash, one, same, split, field_at, set_of}
use Rattle.rules.specs.CheckTexts.{code_fits, code_good, bit_in}

unfoldable pub just_dash : List ℕ → Bool
unfolding same
just_dash f = same f (dash ∷ [])

-- a field as a code of w bits
unfoldable pub code_field : ℕ → List ℕ → Option ℕ
unfolding code_fits set_of
code_field w f = cond (code_fits w f) (Some (set_of one f)) None

-- the line of the state s
unfoldable pub code_said : ℕ → ℕ → List ℕ → Option ℕ
unfolding code_good set_of split
code_said w s l = cond (code_good w s l) (Some (set_of one (field_at l 2))) None

-- the bits of some codes, 64 of them
unfoldable pub all_bits : List ℕ → List ℕ
unfolding bit_in states_from
all_bits codes = map (λ k. bit_in k codes) (states_from 0 64)
