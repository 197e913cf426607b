-- The listings that the encoder takes: those within the limits of 01, as every listing that a reader accepts is.
use Rattle.std.specs.Prelude.{Bool, ◌&&◌, ℕ, ◌^◌, leb, ltb, eqb}
use Rattle.std.specs.List.{list_all}
use Rattle.std.specs.Int.Bits.{bit_and}
use Rattle.rules.specs.Limits.{most_states, most_bits, most_rows, most_dichotomies}
use Rattle.rules.specs.Listing.{rows_of, dichotomies_of}
use Rattle.rules.specs.declared.Row.{Row}
use Rattle.rules.specs.declared.Requirement.{Requirement}
use Rattle.rules.specs.declared.Listing.{Listing}

-- a group is a set of the n states
abbrev pub group_within : ℕ → Row → Bool
group_within n r = ltb r.group (2 ^ n)

-- a dichotomy has two blocks of them that have none in common
abbrev pub blocks_within : ℕ → Requirement → Bool
blocks_within n d = ltb d.first (2 ^ n) && (ltb d.second (2 ^ n) && eqb (bit_and d.first d.second) 0)

-- the same, where the set of all states is told: a set of some of them is no greater a number
abbrev pub group_under : ℕ → Row → Bool
group_under all r = leb r.group all

abbrev pub blocks_under : ℕ → Requirement → Bool
blocks_under all d = leb d.first all && (leb d.second all && eqb (bit_and d.first d.second) 0)

unfoldable pub within_limits : Listing → Bool
within_limits t =
    leb 1 t.head.states
    && (leb t.head.states most_states
    && (leb t.head.width most_bits && (leb t.rows most_rows && leb t.dichotomies most_dichotomies)))

unfoldable pub fair : Listing → Bool
unfolding within_limits
fair t = within_limits t && (list_all (group_within t.head.states) (rows_of t) && list_all (blocks_within t.head.states) (dichotomies_of t))
