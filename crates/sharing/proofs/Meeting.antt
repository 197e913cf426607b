-- What makes two rows meet is judged one after the other.
use mathlib.Core.Path.{◌≡◌}
use mathlib.Core.Bool.{Bool, ◌&&◌, not}
use lib.Dec.{eqb}
use lib.Bits.{bit_and}
use Rattle.rules.specs.Listing.{share_input, meets}
use Rattle.rules.specs.declared.Row.{Row}

pub meets-each : (a b : Row) {p q : Bool} → share_input a b ≡ p → eqb (bit_and a.group b.group) 0 ≡ q → meets a b ≡ (p && not q)
unfolding meets
meets-each a b e f = rw (e, f)
