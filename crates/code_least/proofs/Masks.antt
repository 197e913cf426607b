-- Masks as a walk makes them, digit by digit: one requirement more, and the room for it.
use mathlib.Core.Path.{◌≡◌}
use mathlib.Core.Bool.{Bool, true, false}
use Prim.Native.Nat.{ℕ, suc, ◌+◌, ◌-◌, ◌*◌, ◌^◌, ◌≤◌, ◌<◌}
use native.Mathlib.Omega.{arith}
use lib.Pow.{pow_mono, pow_pos}
use Rattle.rules.specs.Text.{digit}

digit_lt : (d : Bool) → digit d < 2
digit_lt true = omega arith
digit_lt false = omega arith

-- with a places still to come, m has room
pub record Room (m a : ℕ) : Type 0 where
  pub few : a ≤ 32
  pub fits : m < 2 ^ (32 - a)

pub room-start : {a : ℕ} → a ≤ 32 → Room 0 a
room-start {a} h = record { few = h; fits = pow_pos (32 - a) }

pub room_fits : (m a : ℕ) → Room m a → 0 < a → m * 2 + 1 < 2 ^ 64
room_fits m a r l =
    let half : 2 ^ (32 - a) ≤ 2 ^ 31 = pow_mono {i = 32 - a} {j = 31} (omega (arith, r.few)) in
    omega (arith, r.fits)

pub room-more : (m a b : ℕ) (d : Bool) → Room m a → a ≡ suc b → Room (m * 2 + digit d) b
room-more m a b d r e =
    let s : 32 - b ≡ suc (32 - a) = omega (arith, r.few) in
    record { few = omega (arith, r.few); fits = rw s (double (32 - a) r.fits) }
  where
    double : (k : ℕ) → m < 2 ^ k → m * 2 + digit d < 2 ^ suc k
    double k h = omega (arith, digit_lt d)
