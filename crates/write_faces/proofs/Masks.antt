-- A face's characters by masks: of a group, only the members below n count. Over any width.
use mathlib.Core.Path.{◌≡◌, refl, sym, ap, ap₂, ◌∙◌}
use mathlib.Core.Bool.{Bool, true, false, ◌||◌, cond}
use Prim.Native.Nat.{ℕ, ◌^◌, ◌≤◌, ◌<◌, min}
use native.Mathlib.Nat.{mod-eq_of_lt, lt_of_lt_of_le}
use native.Mathlib.Omega.{arith}
use lib.Dec.{eqb, leb}
use borrow.Author.Tests.{leb-true, leb-false}
use lib.Pow.{pow_mono}
use lib.Bits.{bit_and, and_mask, mask_lt}
use Rattle.sets.specs.Sets.{has, everyone}
use Rattle.sets.proofs.Members.{has-lt, has-and, has_all}
use Rattle.sets.proofs.Every.{every-same}
use Rattle.rules.specs.Requirements.{wholly}
use Rattle.rules.specs.Text.{nought, one, dash}
use Rattle.rules.specs.Cover.{face_at}
use Rattle.rules.proofs.Wholly.{wholly-zero, wholly-one}
use Rattle.write_pen.specs.Pen.{value_at}

-- ---- only the members below n count

wholly-below : (n b v g : ℕ) → wholly n b v g ≡ wholly n b v (bit_and g (everyone n))
unfolding wholly
wholly-below n b v g =
    every-same n (λ s. eqb (has g s) 0 || eqb (has b s) v) (λ s. eqb (has (bit_and g (everyone n)) s) 0 || eqb (has b s) v)
    (λ s h. ap (λ (k : ℕ). eqb k 0 || eqb (has b s) v) (member s h))
  where
    member : (s : ℕ) → s < n → has g s ≡ has (bit_and g (everyone n)) s
    member s h =
        let a : has (everyone n) s ≡ 1 = has_all n s h in
        omega (arith, has-and g (everyone n) s, has-lt g s)

-- past the mask's width they are all
pub below-wide : (n g : ℕ) → g < 2 ^ 64 → 64 ≤ n → g ≡ bit_and g (everyone n)
below-wide n g p h = sym (and_mask g n ∙ mod-eq_of_lt (lt_of_lt_of_le p (pow_mono h)))

-- as a mask of 64 digits has them
pub below-least : (n g : ℕ) → g < 2 ^ 64 → bit_and g (everyone (min n 64)) ≡ bit_and g (everyone n)
below-least n g p = go (leb n 64) refl
  where
    go : (b : Bool) → leb n 64 ≡ b → bit_and g (everyone (min n 64)) ≡ bit_and g (everyone n)
    go true e = let same : min n 64 ≡ n = omega (arith, leb-true n 64 e) in ap (λ (k : ℕ). bit_and g (everyone k)) same
    go false e =
        let h = leb-false n 64 e in
        let same : min n 64 ≡ 64 = omega arith in
        ap (λ (k : ℕ). bit_and g (everyone k)) same ∙ sym (below-wide 64 g p (omega arith)) ∙ below-wide n g p (omega arith)

-- ---- the face's character is the value of the group's members below n

pub face-value : (n g b : ℕ) → value_at (bit_and g (everyone n)) dash b ≡ face_at n g b
unfolding value_at face_at
face-value n g b =
    let m : ℕ = bit_and g (everyone n) in
    sym (ap₂ (λ (x y : Bool). cond x nought (cond y one dash)) (wholly-below n b 0 g ∙ wholly-zero n b m (mask_lt g n)) (wholly-below n b 1 g ∙ wholly-one n b m (mask_lt g n)))
