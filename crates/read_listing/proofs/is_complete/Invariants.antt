-- `read_listing::is_complete` meets its contract: the states below s were given their outputs.
use mathlib.Core.Path.{◌≡◌}
use mathlib.Core.Bool.{true}
use Prim.Native.Nat.{ℕ, ◌<◌}
use lib.Dec.{eqb}
use Rattle.sets.specs.Sets.{has}
use Rattle.read_listing.proofs.is_complete.Given as goal

abbrev pub invariant-loop-s : goal.invariant-loop-s
invariant-loop-s l = (i : ℕ) → i < l.s → eqb (has l.given i) 1 ≡ true
