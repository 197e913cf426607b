-- A family that is far without the moved state has no share in any state's gain, the moved one's too.
use mathlib.Core.Path.{◌≡◌, refl, sym, ap₂, ◌∙◌}
use mathlib.Core.Bool.{false}
use Prim.Native.Nat.{ℕ, zero, suc, ◌+◌, ◌^◌, ◌<◌}
use native.Mathlib.Omega.{arith}
use lib.Dec.{leb}
use lib.IntN.{pos, sub_ℕ}
use borrow.Author.Tests.{leb-false}
use Rattle.sets.specs.Sets.{has, flip as turn, size}
use Rattle.sets.proofs.Members.{has-lt, has-flip-other}
use Rattle.sets.proofs.Size.{size-flip}
use Rattle.rules.proofs.Or.{neither-first, neither-second}
use Rattle.rules.proofs.Shares.{sum_of_shares}
use Rattle.families.specs.Families.{without, requirements_of}
use Rattle.move_halves.specs.Halves.{side, back, ones, zeros, worth, held_by, side_but, back_but, near_but}
use Rattle.move_halves.proofs.Levels.{turned, turned-in, turned-out}
use Rattle.families.proofs.Parts.{part-lt, rest_lt}
use Rattle.move_halves.proofs.Meets.{held_at, family-shares}
use Rattle.move_halves.proofs.Looking.{size-side, size_back}
use Rattle.move_halves.proofs.Turns.{side-turned, back-turned}
use lib.Bits.{bit_xor}

held-some : (z w : ℕ) → 0 < z → held_by z w ≡ 0
held-some zero w h = absurd (omega arith)
held-some (suc z) w h = refl

-- a flip takes at most one out
turned-size : (n all x u : ℕ) → x < 2 ^ n → u < n → 1 < size x → 0 < size (turned all x u)
turned-size n all x u hx hu h = go (has all u) refl
  where
    go : (d : ℕ) → has all u ≡ d → 0 < size (turned all x u)
    go zero e = rw (turned-out all x u e) (omega arith)
    go (suc d) e = rw (turned-in all x u (omega (arith, has-lt all u))) (omega (arith, size-flip n x u hx hu, has-lt x u))

module _ (n all flip out b s : ℕ) (ha : all < 2 ^ n) (hs : s < n) (far : near_but all flip b s ≡ false) where
  -- two or more must change at a bit that differs at most at s
  module _ (c : ℕ) (same : (t : ℕ) → (t ≡ s → ⊥) → has c t ≡ has b t) where
    many-side : 1 < size (side all flip c)
    many-side =
        let h = leb-false (size (side_but all flip b s)) 1 (neither-first (leb (size (side_but all flip b s)) 1) (leb (size (back_but all flip b s)) 1) far) in
        omega (arith, size-side n all flip b c s ha hs same)

    many-back : 1 < size (back all flip c)
    many-back =
        let h = leb-false (size (back_but all flip b s)) 1 (neither-second (leb (size (side_but all flip b s)) 1) (leb (size (back_but all flip b s)) 1) far) in
        omega (arith, size_back n all flip b c s ha hs same)

    none-now : held_at all flip out c ≡ 0
    none-now =
        ap₂ (λ (x y : ℕ). x + y)
        (held-some (size (side all flip c)) (worth out (ones (without out all) c)) (omega (arith, many-side)))
        (held-some (size (back all flip c)) (worth out (zeros (without out all) c)) (omega (arith, many-back)))

    none_then : (u : ℕ) → u < n → held_at all flip out (turn c u) ≡ 0
    none_then u hu =
        let x : 0 < size (side all flip (turn c u)) = rw (sym (side-turned n all flip ha c u)) (turned-size n all (side all flip c) u (part-lt n all (bit_xor c flip) ha) hu many-side) in
        let y : 0 < size (back all flip (turn c u)) = rw (sym (back-turned n all flip ha c u)) (turned-size n all (back all flip c) u (rest_lt n all (bit_xor c flip) ha) hu many-back) in
        ap₂ (λ (x y : ℕ). x + y)
        (held-some (size (side all flip (turn c u))) (worth out (ones (without out all) (turn c u))) x)
        (held-some (size (back all flip (turn c u))) (worth out (zeros (without out all) (turn c u))) y)

    no-share : out < 2 ^ n → out < 2 ^ 64 → (u : ℕ) → u < n → sum_of_shares n (requirements_of all flip out) c u ≡ pos 0
    no-share ho hw u hu = family-shares n all flip out ha ho hw c u ∙ ap₂ sub_ℕ (none_then u hu) none-now

  -- before the move and after it
  pub shares-before : out < 2 ^ n → out < 2 ^ 64 → (u : ℕ) → u < n → sum_of_shares n (requirements_of all flip out) b u ≡ pos 0
  shares-before = no-share b (λ t _. refl)

  pub shares-after : out < 2 ^ n → out < 2 ^ 64 → (u : ℕ) → u < n → sum_of_shares n (requirements_of all flip out) (turn b s) u ≡ pos 0
  shares-after = no-share (turn b s) (has-flip-other b s)
