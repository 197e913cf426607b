-- What a bit leaves live of a family is a family: the states outside whose requirements it does not meet, or nothing.
use Rattle.std.proofs.Common.{◌≡◌, ℕ, zero, suc, ◌+◌, ◌-◌, ◌^◌, ◌<◌, Bool, true, false, cond, not, ◌||◌, eqb, [], ◌∷◌, map, sym, refl, ap, ◌∙◌, ap₂, arith, ne_eqb, eqb-true}
use lib.Bits.{bit_xor, and_zero_l}
use Rattle.sets.specs.Sets.{has, size, states_from}
use Rattle.sets.proofs.Members.{has-lt, has-none}
use Rattle.rules.specs.Requirements.{met}
use Rattle.rules.specs.Code.{unmet_by}
use Rattle.rules.proofs.Meeting.{met-counts}
use Rattle.rules.proofs.Unmet.{left-met, left-unmet}
use Rattle.families.specs.Families.{without, inside, single, joined, requirements_of}
use Rattle.families.proofs.Parts.{has_rest}
use Rattle.families.proofs.Inside.{inside-same, inside-none}
use Rattle.families.proofs.Left.{unmet-inside}
use Rattle.move_halves.specs.Halves.{side, back, ones, zeros, held_by}
use Rattle.move_halves.proofs.Sides.{single-one, single-other}
use Rattle.move_halves.proofs.Meets.{joined-met, outside-at, ones-at, zeros-at, ones_none, zeros-none}
use Rattle.bit_live.specs.Left.{left_by, left_of, stays_by, stays_of}

left-gone : (x y o b t : ℕ) → has o t ≡ 0 → has (left_by x y o b) t ≡ 0
unfolding left_by
left-gone x y o b t e = go (eqb x 0) (eqb y 0)
  where
    go : (u v : Bool) → has (cond u (cond v 0 (zeros o b)) (cond v (ones o b) o)) t ≡ 0
    go true true = has-none t
    go true false = zeros-none o b t e
    go false true = ones_none o b t e
    go false false = e

-- a requirement is met, or its state is left
left-or-met : (x y o b t : ℕ) → has o t ≡ 1 → held_by x (has b t) + held_by y (1 - has b t) + has (left_by x y o b) t ≡ 1
unfolding left_by
left-or-met zero zero o b t e = omega (arith, has-none t, has-lt b t)
left-or-met zero (suc y) o b t e = rw (ne_eqb (suc y) 0 (λ z. omega arith)) (omega (arith, zeros-at o b t e, has-lt b t))
left-or-met (suc x) zero o b t e = rw (ne_eqb (suc x) 0 (λ z. omega arith)) (omega (arith, ones-at o b t e, has-lt b t))
left-or-met (suc x) (suc y) o b t e = rw (ne_eqb (suc x) 0 (λ z. omega arith), ne_eqb (suc y) 0 (λ z. omega arith)) (omega arith)

-- what is left is outside
left-outside : (x y all out b t : ℕ) → has (without (left_by x y (without out all) b) all) t ≡ has (left_by x y (without out all) b) t
left-outside x y all out b t = go (has (without out all) t) refl
  where
    go : (d : ℕ) → has (without out all) t ≡ d → has (without (left_by x y (without out all) b) all) t ≡ has (left_by x y (without out all) b) t
    go zero e = omega (arith, has_rest (left_by x y (without out all) b) all t, left-gone x y (without out all) b t e)
    go (suc d) e =
        let z : has all t ≡ 0 = omega (arith, has_rest out all t, has-lt all t, has-lt out t) in
        omega (arith, has_rest (left_by x y (without out all) b) all t, has-lt (left_by x y (without out all) b) t)

module _ (n all flip out b : ℕ) (ha : all < 2 ^ n) (ho : out < 2 ^ n) where
  group-left : unmet_by n b (map (joined all flip) (inside (without out all) (states_from 0 64))) ≡ map (joined all flip) (inside (left_of all flip out b) (states_from 0 64))
  unfolding left_of
  group-left =
      unmet-inside n b (joined all flip) (without out all) (left_of all flip out b)
      (λ t e. left-gone (size (side all flip b)) (size (back all flip b)) (without out all) b t e)
      (λ t e. let h = outside-at n all out t ho e in
      ap (λ (k : ℕ). k + has (left_of all flip out b) t) (joined-met n all flip b ha t h.0 h.1)
      ∙ left-or-met (size (side all flip b)) (size (back all flip b)) (without out all) b t e)
      (states_from 0 64)

  single-met : met n (single all flip) b ≡ (eqb (size (side all flip b)) 0 || eqb (size (back all flip b)) 0)
  single-met = met-counts n (single all flip) b ∙ ap₂ (λ (k j : ℕ). eqb k 0 || eqb j 0) (single-one n all flip b ha) (single-other n all flip b ha)

  -- the family that is left, if one is
  family-left : unmet_by n b (requirements_of all flip out)
      ≡ cond (stays_by (size (side all flip b)) (size (back all flip b)) out (left_of all flip out b))
      (requirements_of all flip (cond (eqb out 0) 0 (left_of all flip out b))) []
  unfolding requirements_of stays_by unmet_by left_of
  family-left = go (eqb out 0) (eqb (size (side all flip b)) 0 || eqb (size (back all flip b)) 0) refl (eqb (left_of all flip out b) 0) refl
    where
      go : (t u : Bool) → (eqb (size (side all flip b)) 0 || eqb (size (back all flip b)) 0) ≡ u → (v : Bool) → eqb (left_of all flip out b) 0 ≡ v
          → unmet_by n b (cond t (single all flip ∷ []) (map (joined all flip) (inside (without out all) (states_from 0 64))))
          ≡ cond (cond t (not (eqb (size (side all flip b)) 0 || eqb (size (back all flip b)) 0)) (not (eqb (left_of all flip out b) 0)))
          (cond (eqb (cond t 0 (left_of all flip out b)) 0) (single all flip ∷ []) (map (joined all flip) (inside (without (cond t 0 (left_of all flip out b)) all) (states_from 0 64)))) []
      go true true e v f = rw e (left-met n b (single all flip) [] (single-met ∙ e))
      go true false e v f = rw e (left-unmet n b (single all flip) [] (single-met ∙ e))
      go false u e true f =
          rw f
          (group-left
          ∙ ap (map (joined all flip)) (inside-none (left_of all flip out b) (λ t. ap (λ (m : ℕ). has m t) (eqb-true (left_of all flip out b) 0 f) ∙ has-none t) (states_from 0 64)))
      go false u e false f =
          rw f
          (group-left
          ∙ ap (map (joined all flip))
          (inside-same (left_of all flip out b) (without (left_of all flip out b) all)
          (λ t. sym (left-outside (size (side all flip b)) (size (back all flip b)) all out b t)) (states_from 0 64)))

-- a family that is one requirement has nobody left
left-single : (all flip out b : ℕ) → cond (eqb out 0) 0 (left_of all flip out b) ≡ left_of all flip out b
unfolding left_by left_of
left-single all flip out b = go (eqb out 0) refl
  where
    none : (m : ℕ) → m ≡ 0 → (u v : Bool) → 0 ≡ cond u (cond v 0 (zeros m b)) (cond v (ones m b) m)
    none m e true true = refl
    none m e true false = sym (ap (λ (m : ℕ). zeros m b) e ∙ ap (bit_xor 0) (and_zero_l b))
    none m e false true = sym (ap (λ (m : ℕ). ones m b) e ∙ and_zero_l b)
    none m e false false = sym e

    go : (t : Bool) → eqb out 0 ≡ t → cond t 0 (left_of all flip out b) ≡ left_of all flip out b
    go true e = none (without out all) (ap (λ (m : ℕ). without m all) (eqb-true out 0 e) ∙ ap (bit_xor 0) (and_zero_l all)) (eqb (size (side all flip b)) 0) (eqb (size (back all flip b)) 0)
    go false e = refl

-- what is left of a family, if something is
pub family-unmet : (n all flip out b : ℕ) → all < 2 ^ n → out < 2 ^ n
    → unmet_by n b (requirements_of all flip out) ≡ cond (stays_of all flip out b) (requirements_of all flip (left_of all flip out b)) []
unfolding stays_of
family-unmet n all flip out b ha ho =
    family-left n all flip out b ha ho
    ∙ ap (λ (m : ℕ). cond (stays_of all flip out b) (requirements_of all flip m) []) (left-single all flip out b)

-- the same, of what code has on the way
pub by-family : (all flip out b x o left : ℕ) (r : Bool) → x ≡ side all flip b → o ≡ without out all → left ≡ left_by (size x) (size (bit_xor all x)) o b
    → r ≡ stays_by (size x) (size (bit_xor all x)) out left → (left ≡ left_of all flip out b) × (r ≡ stays_of all flip out b)
unfolding left_of stays_of
by-family all flip out b x o left r ex eo el er =
    let y : bit_xor all x ≡ back all flip b = ap (bit_xor all) ex in
    let l : left ≡ left_by (size (side all flip b)) (size (back all flip b)) (without out all) b =
    el ∙ ap₂ (λ (u v : ℕ). left_by (size u) (size v) o b) ex y ∙ ap (λ (m : ℕ). left_by (size (side all flip b)) (size (back all flip b)) m b) eo in
    (l, er ∙ ap₂ (λ (u v : ℕ). stays_by (size u) (size v) out left) ex y ∙ ap (stays_by (size (side all flip b)) (size (back all flip b)) out) l)
