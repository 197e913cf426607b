-- Names as places in a text: which bytes a place stands for, and one name more.
use Rattle.std.specs.Prelude.{cond, List, map, ℕ, ◌+◌, ◌-◌, ltb, take, drop, set, replicate}
use Rattle.rules.specs.Limits.{most_states}
use Rattle.read_names.specs.declared.Piece.{Piece}
use Rattle.read_names.specs.declared.Names.{Names}

-- the bytes from the start of a piece to its end
unfoldable pub piece_of : List ℕ → Piece → List ℕ
piece_of s p = take (p.end - p.start) (drop p.start s)

-- the names, in the order of their numbers
unfoldable pub names_in : List ℕ → Names → List (List ℕ)
unfolding piece_of
names_in s ns = map (piece_of s) (take ns.count ns.places)

unfoldable pub no_names : Names
no_names = record { count = 0; places = replicate most_states (record { start = 0; end = 0 }) }

-- one more behind them, if there is room
unfoldable pub with_name : Names → Piece → Names
with_name ns p = cond (ltb ns.count most_states) (record { count = ns.count + 1; places = set ns.places ns.count p }) ns
