-- A set in two parts: the members of another, and the rest.
use mathlib.Core.Path.{◌≡◌, ap, ◌∙◌}
use Prim.Native.Nat.{ℕ, ◌+◌, ◌%◌, ◌^◌, ◌<◌, min}
use native.Mathlib.Omega.{arith}
use lib.Bits.{bit_and, and_le_l, xor_lt}
use Rattle.sets.specs.Sets.{has}
use Rattle.sets.proofs.Members.{has-and, has-xor}
use Rattle.families.specs.Families.{without}

pub part-lt : (n m x : ℕ) → m < 2 ^ n → bit_and m x < 2 ^ n
part-lt n m x h = omega (arith, and_le_l m x)

pub rest_lt : (n m x : ℕ) → m < 2 ^ n → without m x < 2 ^ n
rest_lt n m x h = xor_lt n m (bit_and m x) h (part-lt n m x h)

pub has_rest : (m x t : ℕ) → has (without m x) t ≡ (has m t + min (has m t) (has x t)) % 2
has_rest m x t = has-xor m (bit_and m x) t ∙ ap (λ (d : ℕ). (has m t + d) % 2) (has-and m x t)
