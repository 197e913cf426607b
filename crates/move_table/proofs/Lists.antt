-- A move looks at no more requirements of a list than it has.
use mathlib.Core.Bool.{Bool, true, false, cond}
use mathlib.Core.List.{List, [], ◌∷◌}
use Prim.Native.Nat.{ℕ, ◌≤◌, zero-le}
use native.Mathlib.Omega.{arith}
use lib.ListN.{length}
use Rattle.rules.specs.declared.Requirement.{Requirement}
use Rattle.move_table.specs.Table.{look_mask}
use Rattle.move_table.specs.Moves.{looked}

pub looked-le : (rs : List Requirement) (b a s : ℕ) → looked rs b a s ≤ length rs
unfolding looked
looked-le [] b a s = zero-le
looked-le (r ∷ rs) b a s = let h = looked-le rs b a s in omega (arith, at (look_mask r.first r.second b a s))
  where
    at : (t : Bool) → cond {A = ℕ} t 1 0 ≤ 1
    at true = omega arith
    at false = omega arith
