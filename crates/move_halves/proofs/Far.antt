-- A family that is far without the moved state: where two or more must change each way round, the move looks at none of it, and changes nothing.
use mathlib.Core.Path.{◌≡◌, refl, ◌∙◌}
use mathlib.Core.Bool.{Bool, true, false, cond}
use mathlib.Core.List.{List}
use Prim.Native.Nat.{ℕ, zero, suc, ◌<◌}
use native.Mathlib.Omega.{arith}
use lib.Dec.{eqb, leb}
use borrow.Author.Tests.{leb-false, ne_eqb}
use Rattle.sets.specs.Sets.{has, size}
use Rattle.rules.proofs.Or.{neither-first, neither-second}
use Rattle.families.specs.Families.{without}
use Rattle.move_halves.specs.Halves.{halved_by, halved, side_but, back_but, near_but, swayed_in, swayed_out, swayed, looks_by, looks_of}

-- a half of which two or more must change gives nothing to any state
pub halved-far : (on : Bool) (w all x right rest : ℕ) (t : List ℕ) → leb (size x) 1 ≡ false → halved on w all x right rest t ≡ t
unfolding halved halved_by
halved-far on w all x right rest t e = go (size x) (leb-false (size x) 1 e)
  where
    go : (z : ℕ) → 1 < z → halved_by z on w all x right rest t ≡ t
    go zero h = absurd (omega arith)
    go (suc zero) h = absurd (omega arith)
    go (suc (suc z)) h = refl

either-none : (u v : Bool) (t : List ℕ) (x y : List ℕ) → x ≡ t → y ≡ t → cond u x (cond v y t) ≡ t
either-none true v t x y e f = e
either-none false true t x y e f = f
either-none false false t x y e f = refl

module _ (all flip out b s : ℕ) (far : near_but all flip b s ≡ false) where
  side-far : leb (size (side_but all flip b s)) 1 ≡ false
  side-far = neither-first (leb (size (side_but all flip b s)) 1) (leb (size (back_but all flip b s)) 1) far

  back-far : leb (size (back_but all flip b s)) 1 ≡ false
  back-far = neither-second (leb (size (side_but all flip b s)) 1) (leb (size (back_but all flip b s)) 1) far

  twice-far : (on off : Bool) (w v i j i' j' : ℕ) (t : List ℕ)
      → halved off v all (back_but all flip b s) i' j' (halved on w all (side_but all flip b s) i j t) ≡ t
  twice-far on off w v i j i' j' t =
      halved-far off v all (back_but all flip b s) i' j' (halved on w all (side_but all flip b s) i j t) back-far
      ∙ halved-far on w all (side_but all flip b s) i j t side-far

  pub swayed-far : (t : List ℕ) → swayed all flip out b s t ≡ t
  unfolding swayed swayed_in swayed_out
  swayed-far t =
      either-none (eqb (has all s) 1) (eqb (has (without out all) s) 1) t (swayed_in all flip out b s t) (swayed_out all flip b s t)
      (twice-far _ _ _ _ _ _ _ _ t) (twice-far _ _ _ _ _ _ _ _ t)

  pub looks-far : looks_of all flip out b s ≡ 0
  unfolding looks_of looks_by
  looks-far =
      rw (
        side-far,
        back-far,
        ne_eqb (size (side_but all flip b s)) 0 (λ e. omega (arith, leb-false (size (side_but all flip b s)) 1 side-far)),
        ne_eqb (size (back_but all flip b s)) 0 (λ e. omega (arith, leb-false (size (back_but all flip b s)) 1 back-far)),
      )
      (nothing (eqb (has all s) 1) (eqb out 0) (eqb (has (without out all) s) 1))
    where
      nothing : (u v w : Bool) → cond {A = ℕ} u (cond v 0 0) (cond w 0 0) ≡ 0
      nothing true true w = refl
      nothing true false w = refl
      nothing false v true = refl
      nothing false v false = refl
