-- Looks by masks: a move looks at a requirement by its masks exactly when it does by 01's counts.
use mathlib.Core.Path.{◌≡◌, refl, sym, ap, ap₂, ◌∙◌}
use mathlib.Core.Bool.{Bool, ◌&&◌, ◌||◌, cond}
use mathlib.Core.List.{List, [], ◌∷◌}
use Prim.Native.Nat.{ℕ, zero, suc, ◌+◌, ◌^◌, ◌<◌, max}
use native.Mathlib.Omega.{arith}
use lib.Bits.{bit_or}
use lib.Dec.{eqb}
use Rattle.sets.specs.Sets.{has, flip}
use Rattle.sets.proofs.Members.{has-lt, has-or, flip-lt}
use Rattle.rules.specs.Looks.{member, looks_at, move_looks}
use Rattle.rules.specs.declared.Requirement.{Requirement}
use Rattle.rules.proofs.Masks.{near-mask}
use Rattle.rules.proofs.Good.{Good, AllGood}
use Rattle.move_table.specs.Table.{look_mask}
use Rattle.move_table.specs.Moves.{looked}

-- a digit of two is 1 where the larger is
larger-one : (x y : ℕ) → x < 2 → y < 2 → eqb (max x y) 1 ≡ (eqb x 1 || eqb y 1)
larger-one zero zero p q = refl
larger-one zero (suc zero) p q = refl
larger-one zero (suc (suc y)) p q = absurd (omega arith)
larger-one (suc zero) zero p q = refl
larger-one (suc zero) (suc zero) p q = refl
larger-one (suc zero) (suc (suc y)) p q = absurd (omega arith)
larger-one (suc (suc x)) y p q = absurd (omega arith)

member-mask : (r : Requirement) (s : ℕ) → eqb (has (bit_or r.first r.second) s) 1 ≡ member r s
member-mask r s =
    ap (λ (d : ℕ). eqb d 1) (has-or r.first r.second s) ∙ larger-one (has r.first s) (has r.second s) (has-lt r.first s) (has-lt r.second s)

module _ (n b s : ℕ) (hb : b < 2 ^ n) (hs : s < n) where
  pub look-mask : (r : Requirement) → Good n r → look_mask r.first r.second b (flip b s) s ≡ looks_at n r b s
  unfolding look_mask looks_at
  look-mask r good =
      ap₂ ◌&&◌ (member-mask r s)
      (ap₂ ◌||◌
      (sym (near-mask n r b good.first good.second hb good.apart))
      (sym (near-mask n r (flip b s) good.first good.second (flip-lt n b s hb hs) good.apart)))

  -- how many of the requirements the move of s looks at
  pub looked-looks : (rs : List Requirement) → AllGood n rs → looked rs b (flip b s) s ≡ move_looks n rs b s
  unfolding looked move_looks
  looked-looks [] good = refl
  looked-looks (r ∷ rs) good = ap₂ (λ (t : Bool) (k : ℕ). cond t 1 0 + k) (look-mask r good.0) (looked-looks rs good.1)
