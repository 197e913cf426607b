-- Where a piece ends, when bytes are parted as `split` says: a line in a listing, or a field in a line.
use Rattle.std.specs.Prelude.{Bool, ◌&&◌, List, [], ℕ, ◌+◌, length, get_or, drop, ltb, eqb}
use Rattle.rules.specs.Text.{split}

-- the end of the piece that starts at `at`, where pieces are parted by q
unfoldable pub end_of : ℕ → List ℕ → ℕ → ℕ
unfolding split
end_of q l at = at + length (get_or (split q (drop at l)) 0 [])

-- byte k is there and is q
unfoldable pub stands_at : ℕ → ℕ → List ℕ → Bool
stands_at q k l = ltb k (length l) && eqb (get_or l k 0) q
