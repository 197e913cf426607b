-- What is told, row by row as a loop has it.
use mathlib.Core.Path.{◌≡◌, ap}
use mathlib.Core.Bool.{Bool, ◌&&◌, cond}
use mathlib.Core.List.{List, [], ◌∷◌}
use Prim.Native.Nat.{ℕ}
use lib.Dec.{eqb}
use Rattle.sets.specs.Sets.{has}
use Rattle.rules.specs.Cover.{fires}
use Rattle.rules.specs.declared.Head.{Head}
use Rattle.rules.specs.declared.Row.{Row}
use Rattle.run_inputs.specs.Inputs.{takes_input}
use Rattle.run_symbolic.specs.Told.{told_of, told_with, told_by}
use Rattle.run_symbolic.specs.declared.Told.{Told}

-- a row fires where its input takes the vector and its group has the state
pub fires-each : (h : Head) (r : Row) (x s : ℕ) {b : Bool} → takes_input h.inputs r.input x ≡ b → fires h r x s ≡ (b && eqb (has r.group s) 1)
unfolding fires takes_input
fires-each h r x s e = ap (λ (b : Bool). b && eqb (has r.group s) 1) e

module _ (h : Head) (x s : ℕ) where
  pub with-firing : (a : Told) (r : Row) {b : Bool} → fires h r x s ≡ b → told_with h x s a r ≡ cond b (told_of a r) a
  unfolding told_with
  with-firing a r e = ap (λ (b : Bool). cond b (told_of a r) a) e

  pub told_here : (a : Told) (r : Row) (qs rs : List Row) {b : Told} → qs ≡ r ∷ rs → b ≡ told_with h x s a r → told_by h x s a qs ≡ told_by h x s b rs
  unfolding told_by
  told_here a r qs rs e q = rw (e, q)

  pub told_none : (a : Told) (qs : List Row) → qs ≡ [] → told_by h x s a qs ≡ a
  unfolding told_by
  told_none a qs e = rw e
