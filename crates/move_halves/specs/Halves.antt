-- The two halves of a family: one for each way round. A half is met as often as it is worth where none of its side must change, and else not at all.
use Rattle.std.specs.Prelude.{Bool, ◌&&◌, ◌||◌, not, cond, List, ℕ, zero, suc, ◌+◌, ◌-◌, ◌%◌, ◌^◌, eqb, leb}
use Rattle.std.specs.Int.Bits.{bit_and, bit_or, bit_xor}
use Rattle.sets.specs.Sets.{has, only, size}
use Rattle.move_table.specs.Table.{raised}
use Rattle.families.specs.Families.{without}

-- half 1: of the members in common those that must change for first block 0 and second block 1; half 0: the others
abbrev pub side : ℕ → ℕ → ℕ → ℕ
side all flip b = bit_and all (bit_xor b flip)

abbrev pub back : ℕ → ℕ → ℕ → ℕ
back all flip b = bit_xor all (side all flip b)

-- the states outside that are right in half 1, those of value 1; and those that are right in half 0
abbrev pub ones : ℕ → ℕ → ℕ
ones out b = bit_and out b

abbrev pub zeros : ℕ → ℕ → ℕ
zeros out b = bit_xor out (bit_and out b)

-- the requirements that a half with these states right is worth
abbrev pub worth : ℕ → ℕ → ℕ
worth out right = cond (eqb out 0) 1 (size right)

-- how many of w requirements are met where z must change
abbrev pub held_by : ℕ → ℕ → ℕ
held_by zero w = w
held_by (suc z) w = 0

abbrev pub held : ℕ → ℕ → ℕ
held side w = held_by (size side) w

-- ---- the gain table

-- x put on, or taken off, modulo 2 ^ 32
abbrev pub signed : Bool → ℕ → ℕ
signed on x = cond on x ((2 ^ 32 - x) % 2 ^ 32)

-- the shares of a half that is worth w, put on or taken off, where z must change: with none, a flip of a member breaks all w, that of a state that is
-- right breaks one, that of another outside makes one; with one, its flip makes all w; with more, no flip does anything
unfoldable pub halved_by : ℕ → Bool → ℕ → ℕ → ℕ → ℕ → ℕ → List ℕ → List ℕ
unfolding raised
halved_by zero on w all side right rest t = raised (signed on 1) rest 0 (raised (signed (not on) 1) right 0 (raised (signed (not on) w) all 0 t))
halved_by (suc zero) on w all side right rest t = raised (signed on w) side 0 t
halved_by (suc (suc z)) on w all side right rest t = t

unfoldable pub halved : Bool → ℕ → ℕ → ℕ → ℕ → ℕ → List ℕ → List ℕ
unfolding halved_by
halved on w all side right rest t = halved_by (size side) on w all side right rest t

-- ---- the move of s at the bit b

-- the two sides without s: they are the same before and after the move
abbrev pub side_but : ℕ → ℕ → ℕ → ℕ → ℕ
side_but all flip b s = side (without all (only s)) flip b

abbrev pub back_but : ℕ → ℕ → ℕ → ℕ → ℕ
back_but all flip b s = back (without all (only s)) flip b

-- at most one must change, one way round or the other
abbrev pub near_but : ℕ → ℕ → ℕ → ℕ → Bool
near_but all flip b s = leb (size (side_but all flip b s)) 1 || leb (size (back_but all flip b s)) 1

-- the family has s, and is near without it
unfoldable pub near_at : ℕ → ℕ → ℕ → ℕ → ℕ → Bool
unfolding size
near_at all flip out b s = eqb (has (bit_or all out) s) 1 && near_but all flip b s

-- where s is a member in common: the half whose side it leaves is put on, the half whose side it joins is taken off
unfoldable pub swayed_in : ℕ → ℕ → ℕ → ℕ → ℕ → List ℕ → List ℕ
unfolding halved
swayed_in all flip out b s t =
    let o : ℕ = without out all in
    let on : Bool = eqb (has (bit_xor b flip) s) 1 in
    halved (not on) (worth out (zeros o b)) all (back_but all flip b s) (zeros o b) (ones o b)
    (halved on (worth out (ones o b)) all (side_but all flip b s) (ones o b) (zeros o b) t)

-- where s is outside: its own requirement goes from the one half to the other
unfoldable pub swayed_out : ℕ → ℕ → ℕ → ℕ → List ℕ → List ℕ
unfolding halved
swayed_out all flip b s t =
    let on : Bool = not (eqb (has b s) 1) in
    halved (not on) 1 all (back_but all flip b s) (only s) 0 (halved on 1 all (side_but all flip b s) (only s) 0 t)

-- The table after the move, in which the moved state's own gain has changed by half of what it must: it ends as its negative, and stands at 0 here.
unfoldable pub swayed : ℕ → ℕ → ℕ → ℕ → ℕ → List ℕ → List ℕ
unfolding swayed_in swayed_out
swayed all flip out b s t = cond (eqb (has all s) 1) (swayed_in all flip out b s t) (cond (eqb (has (without out all) s) 1) (swayed_out all flip b s t) t)

-- the looks of the move, where p and q must change without s, and these states outside are right in half 1 and in half 0: a requirement of a state that
-- is right the one way round is looked at where at most one must change that way, or none the other way
unfoldable pub looks_by : ℕ → ℕ → ℕ → ℕ → ℕ → ℕ
looks_by out p q right rest =
    cond (eqb out 0) (cond (leb p 1 || leb q 1) 1 0)
    (cond (leb p 1 || eqb q 0) (size right) 0 + cond (leb q 1 || eqb p 0) (size rest) 0)

unfoldable pub looks_of : ℕ → ℕ → ℕ → ℕ → ℕ → ℕ
unfolding looks_by
looks_of all flip out b s =
    let o : ℕ = without out all in
    cond (eqb (has all s) 1) (looks_by out (size (side_but all flip b s)) (size (back_but all flip b s)) (ones o b) (zeros o b))
    (cond (eqb (has o s) 1) (cond (near_but all flip b s) 1 0) 0)
