-- A row among those that are there, judged one test after the other.
use Rattle.std.specs.Prelude.{Some, None}
use mathlib.Core.Path.{◌≡◌, refl}
use mathlib.Core.Bool.{Bool, cond}
use mathlib.Core.List.{List}
use Prim.Native.Nat.{ℕ, ◌+◌}
use lib.ListN.{take, get_or, set}
use lib.Dec.{leb, ltb}
use Rattle.rules.specs.Limits.{most_rows}
use Rattle.rules.specs.Listing.{no_row}
use Rattle.rules.specs.KissLines.{first_place}
use Rattle.rules.specs.Kiss.{same_row, place_of, joined}
use Rattle.rules.specs.declared.KissHeads.{KissHeads}
use Rattle.rules.specs.declared.Row.{Row}
use Rattle.read_names.specs.declared.Names.{Names}
use Rattle.read_kiss_rows.specs.Drafts.{drafts, join_at, join_of}

-- the place of a row is the first of those that it joins
pub place-first : (r : Row) (rs : List Row) → first_place (same_row r) rs ≡ place_of r rs
unfolding place_of
place-first r rs = refl

pub join_by : (h : KissHeads) (ns : Names) (rows : ℕ) (table : List Row) (r : Row) {p : ℕ} {a b : Bool} → p ≡ place_of r (take rows table) → leb most_rows p ≡ a → ltb p rows ≡ b
    → join_of h ns rows table r
    ≡ cond a None (cond b (Some (drafts h ns rows (set table p (joined (get_or table p no_row) r)))) (Some (drafts h ns (p + 1) (set table p r))))
unfolding join_of join_at
join_by h ns rows table r e f g = rw (← e, f, g)
