-- Minus a number, as an `i64` has it.
use mathlib.Core.Path.{◌≡◌, ap, ◌∙◌}
use Prim.Native.Nat.{ℕ, zero, suc, ◌<◌}
use native.Mathlib.Omega.{arith}
use lib.IntN.{ℤ, pos, neg_ℤ, ◌-ℤ◌, +ℤ_idl}
use mir.Syntax.{w64}
use mir.Val.{to_z, of_z, SFits}
use mir.Facts.{to_z_pos, to_z-of_z}

zero-less : (m : ℕ) → m < 9223372036854775808 → pos 0 -ℤ to_z w64 m ≡ neg_ℤ (pos m)
zero-less m h = ap (λ (z : ℤ). pos 0 -ℤ z) (to_z_pos w64 h) ∙ +ℤ_idl (neg_ℤ (pos m))

neg-fits : (m : ℕ) → m < 9223372036854775808 → SFits w64 (neg_ℤ (pos m))
neg-fits zero h = record { sfits = omega arith }
neg-fits (suc m) h = record { sfits = omega arith }

pub minus-fits : (m : ℕ) → m < 9223372036854775808 → SFits w64 (pos 0 -ℤ to_z w64 m)
minus-fits m h = rw (zero-less m h) (neg-fits m h)

pub minus_is : (m : ℕ) → m < 9223372036854775808 → to_z w64 (of_z w64 (pos 0 -ℤ to_z w64 m)) ≡ neg_ℤ (pos m)
minus_is m h = to_z-of_z (minus-fits m h) ∙ zero-less m h
