-- A refusal's line by its fields, each with the byte that ends it, and how long it is.
use mathlib.Core.Path.{◌≡◌}
use mathlib.Core.List.{[], ◌∷◌, ◌++◌, append_assoc}
use Prim.Native.Nat.{ℕ, ◌+◌, ◌^◌, ◌≤◌, ◌<◌}
use native.Mathlib.Omega.{arith}
use lib.ListN.{length, length-append}
use Rattle.rules.specs.Refusals.{number}
use Rattle.rules.specs.Text.{bytes, space, lf, decimal}
use Rattle.rules.specs.Answers.{refuses, printed}
use Rattle.rules.specs.declared.Refusal.{Refusal}
use Rattle.rules.proofs.Decimal.{decimal-length}

pub refused-fields : (r : Refusal) (line : ℕ) {n : ℕ} → n ≡ number r → bytes "NO " ++ ((decimal n ++ (space ∷ [])) ++ (decimal line ++ (lf ∷ []))) ≡ printed (refuses r line)
unfolding printed
refused-fields r line e = rw e (simp append_assoc)

number-few : (r : Refusal) → number r < 100
number-few Refusal.BadLine = omega arith
number-few Refusal.Limit = omega arith
number-few Refusal.Place = omega arith
number-few Refusal.EmptyGroup = omega arith
number-few Refusal.NextState = omega arith
number-few Refusal.Conflict = omega arith
number-few Refusal.TooWide = omega arith
number-few Refusal.Unmet = omega arith
number-few Refusal.NoRoom = omega arith
number-few Refusal.BadCall = omega arith
number-few Refusal.Names = omega arith
number-few Refusal.Unstable = omega arith
number-few Refusal.NoNext = omega arith
number-few Refusal.Misfit = omega arith
number-few Refusal.NoShortCode = omega arith
number-few Refusal.NoOutputs = omega arith

-- by how many digits behind the first the line has
pub refusal-length : (d : ℕ) (r : Refusal) (k : ℕ) → k < 10 ^ (d + 1) → length (printed (refuses r k)) ≤ d + 8
unfolding printed
refusal-length d r k h = simp length-append (omega (arith, decimal-length 1 (number r) (number-few r), decimal-length d k h))
