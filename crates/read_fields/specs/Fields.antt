-- What the readers of a field answer beside `rules`: the shape of a number, and the sets that a field of three kinds of characters stands for.
use Rattle.std.specs.Prelude.{Bool, ◌&&◌, ◌||◌, not, cond, List, ℕ, length, get_or, leb, eqb, Option, Some, None}
use Rattle.rules.specs.Text.{nought, one, dash, all_of, sized, set_of}
use Rattle.read_fields.specs.declared.Places.{Places}
use Rattle.rules.specs.declared.Pattern.{Pattern}

-- one to four characters, the first of several no `0`
unfoldable pub number_shaped : List ℕ → Bool
number_shaped f = leb 1 (length f) && leb (length f) 4 && (eqb (length f) 1 || not (eqb (get_or f 0 0) nought))

-- the places of b and those of c, where there are at most 64 characters and each is a, b or c
unfoldable pub places_of : ℕ → ℕ → ℕ → List ℕ → Option Places
unfolding all_of set_of
places_of a b c f = cond (leb (length f) 64 && all_of a b c f) (Some (record { second = set_of b f; third = set_of c f })) None

-- the same of a field of k characters; k is at most `most`
unfoldable pub places_in : ℕ → ℕ → ℕ → ℕ → ℕ → List ℕ → Option Places
unfolding places_of
places_in most k a b c f = cond (leb (length f) most && eqb (length f) k) (places_of a b c f) None

-- the ones and the dashes of such a field, of at most 32 characters
unfoldable pub pattern_in : ℕ → ℕ → List ℕ → Option Pattern
unfolding sized set_of
pattern_in most k f =
    cond (leb (length f) 32 && sized most k nought one dash f)
    (Some (record { ones = set_of one f; dashes = set_of dash f }))
    None

-- the ones of a field of `0 1`, of at most 64 characters
unfoldable pub ones_in : ℕ → ℕ → List ℕ → Option ℕ
unfolding sized set_of
ones_in most k f = cond (leb (length f) 64 && sized most k nought one one f) (Some (set_of one f)) None
