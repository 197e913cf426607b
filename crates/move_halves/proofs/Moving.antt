-- The move of a state for one family, case by case, as code goes through it.
use mathlib.Core.Path.{◌≡◌, refl, sym, ap, ap₂, ◌∙◌}
use mathlib.Core.Bool.{Bool, true, false, ◌&&◌, ◌||◌, not, cond}
use mathlib.Core.List.{List}
use Prim.Native.Nat.{ℕ, zero, suc, ◌^◌, ◌≤◌, ◌<◌}
use native.Mathlib.Decide.{dec_lt, ℕ_discrete}
use native.Mathlib.Omega.{arith}
use lib.Bits.{bit_and, bit_or, bit_xor, and_zero_r, and_le_l}
use lib.Dec.{eqb, leb}
use mir.Val.{bool_byte}
use borrow.Author.Tests.{eq-eqb, ne_eqb, eqb-true, eqb-false}
use Rattle.sets.specs.Sets.{has, only, size}
use Rattle.sets.proofs.Members.{has-lt, has-and, has-or, has-none, has-only, has_other, has-high, same-mask}
use Rattle.families.specs.Families.{without}
use Rattle.move_halves.specs.Halves.{side, ones, zeros, worth, halved, side_but, back_but, near_but, near_at, swayed_in, swayed_out, swayed, looks_by, looks_of}
use Rattle.move_halves.proofs.Far.{swayed-far, looks-far}
use Rattle.families.proofs.Parts.{has_rest}

-- a member of a mask of 64 digits is one of the first 64 states
pub member_below : (m s : ℕ) → m < 2 ^ 64 → has m s ≡ 1 → s < 64
member_below m s h e = go (dec_lt s 64)
  where
    go : Dec (s < 64) → s < 64
    go (yes l) = l
    go (no l) = absurd (omega (arith, has-high 64 m s h (omega arith)))

-- a member, by the mask of the state alone
pub member-by : (m own s : ℕ) → m < 2 ^ 64 → (s < 64 → own ≡ only s) × (64 ≤ s → own ≡ 0) → not (eqb (bit_and m own) 0) ≡ eqb (has m s) 1
member-by m own s fits e = go (has m s) refl (has-lt m s)
  where
    none : has m s ≡ 0 → Dec (s < 64) → bit_and m own ≡ 0
    none z (yes l) = ap (bit_and m) (e.0 l) ∙ same-mask 64 (bit_and m (only s)) 0 (omega (arith, and_le_l m (only s))) (omega arith) (λ t _. each t (ℕ_discrete t s))
      where
        each : (t : ℕ) → Dec (t ≡ s) → has (bit_and m (only s)) t ≡ has 0 t
        each t (yes q) = omega (arith, has-and m (only s) t, ap (has m) q, has-none t)
        each t (no q) = omega (arith, has-and m (only s) t, has_other s t q, has-none t)
    none z (no l) = ap (bit_and m) (e.1 (omega arith)) ∙ and_zero_r m

    some : has m s ≡ 1 → bit_and m own ≡ 0 → ⊥
    some o z =
        let l : s < 64 = member_below m s fits o in
        omega (arith, has-and m (only s) s, has-only s, ap (λ (x : ℕ). has x s) (sym (ap (bit_and m) (e.0 l)) ∙ z), has-none s)

    go : (d : ℕ) → has m s ≡ d → d < 2 → not (eqb (bit_and m own) 0) ≡ eqb (has m s) 1
    go zero h l = ap not (eq-eqb (bit_and m own) 0 (none h (dec_lt s 64))) ∙ sym (ne_eqb (has m s) 1 (λ d. omega arith))
    go (suc zero) h l = ap not (ne_eqb (bit_and m own) 0 (some h)) ∙ sym (eq-eqb (has m s) 1 h)
    go (suc (suc d)) h l = absurd (omega arith)

-- tests as numbers
pub number-of_test : (u : Bool) → bool_byte u ≡ cond u 1 0
number-of_test true = refl
number-of_test false = refl

as_number : (p q u : Bool) → bit_and (bit_or (bool_byte p) (bool_byte q)) (bool_byte u) ≡ cond (u && (p || q)) 1 0
as_number true true true = refl
as_number true false true = refl
as_number false true true = refl
as_number false false true = refl
as_number true true false = refl
as_number true false false = refl
as_number false true false = refl
as_number false false false = refl

module _ (all flip out b s : ℕ) (t : List ℕ) where
  -- the family has not the state
  pub move-missing : has all s ≡ 0 → has out s ≡ 0 → (looks_of all flip out b s ≡ 0) × (swayed all flip out b s t ≡ t)
  unfolding looks_of swayed
  move-missing e f =
      let p : eqb (has all s) 1 ≡ false = ne_eqb (has all s) 1 (λ d. omega arith) in
      let q : eqb (has (without out all) s) 1 ≡ false = ne_eqb (has (without out all) s) 1 (λ d. omega (arith, has_rest out all s)) in
      (rw (p, q) refl, rw (p, q) refl)

  -- the family has not the state, or is far without it
  pub move-passed : near_at all flip out b s ≡ false → (looks_of all flip out b s ≡ 0) × (swayed all flip out b s t ≡ t)
  unfolding near_at
  move-passed far = go (eqb (has (bit_or all out) s) 1) refl far
    where
      go : (u : Bool) → eqb (has (bit_or all out) s) 1 ≡ u → (u && near_but all flip b s) ≡ false → (looks_of all flip out b s ≡ 0) × (swayed all flip out b s t ≡ t)
      go true h e = (looks-far all flip out b s e, swayed-far all flip out b s e t)
      go false h e =
          let o = eqb-false (has (bit_or all out) s) 1 h in
          move-missing (omega (arith, has-lt (bit_or all out) s, has-or all out s)) (omega (arith, has-lt (bit_or all out) s, has-or all out s))

  -- the mark of a family, from what code finds on the way
  pub by-mark : (p q u : Bool) → u ≡ eqb (has (bit_or all out) s) 1 → (has (bit_or all out) s ≡ 1 → (p || q) ≡ near_at all flip out b s)
      → bit_and (bit_or (bool_byte p) (bool_byte q)) (bool_byte u) ≡ cond (near_at all flip out b s) 1 0
  unfolding near_at
  by-mark p q true e h = as_number p q true ∙ ap (λ (x : Bool). cond x 1 0) (h (eqb-true (has (bit_or all out) s) 1 (sym e)))
  by-mark p q false e h = as_number p q false ∙ ap (λ (x : Bool). cond (x && near_but all flip b s) 1 0) e

  -- a member in common
  pub move-common : has all s ≡ 1
      → (looks_of all flip out b s ≡ looks_by out (size (side_but all flip b s)) (size (back_but all flip b s)) (ones (without out all) b) (zeros (without out all) b))
      × (swayed all flip out b s t
      ≡ halved (not (eqb (has (bit_xor b flip) s) 1)) (worth out (zeros (without out all) b)) all (back_but all flip b s) (zeros (without out all) b) (ones (without out all) b)
      (halved (eqb (has (bit_xor b flip) s) 1) (worth out (ones (without out all) b)) all (side_but all flip b s) (ones (without out all) b) (zeros (without out all) b) t))
  unfolding looks_of swayed swayed_in
  move-common e = (rw (eq-eqb (has all s) 1 e) refl, rw (eq-eqb (has all s) 1 e) refl)

  -- a state outside
  pub move-outside : has out s ≡ 1 → has all s ≡ 0
      → (looks_of all flip out b s ≡ cond (near_but all flip b s) 1 0)
      × (swayed all flip out b s t
      ≡ halved (not (not (eqb (has b s) 1))) 1 all (back_but all flip b s) (only s) 0 (halved (not (eqb (has b s) 1)) 1 all (side_but all flip b s) (only s) 0 t))
  unfolding looks_of swayed swayed_out
  move-outside e f =
      let p : eqb (has all s) 1 ≡ false = ne_eqb (has all s) 1 (λ d. omega arith) in
      let q : eqb (has (without out all) s) 1 ≡ true = eq-eqb (has (without out all) s) 1 (omega (arith, has_rest out all s)) in
      (rw (p, q) refl, rw (p, q) refl)

  -- the same, of what code has on the way
  module _ (others x : ℕ) (eo : others ≡ without all (only s)) (ex : x ≡ side others flip b) where
    ex' : x ≡ side_but all flip b s
    ex' = ex ∙ ap (λ (m : ℕ). side m flip b) eo

    ey : bit_xor others x ≡ back_but all flip b s
    ey = ap₂ bit_xor eo ex'

    pub by_near : (r : Bool) → has (bit_or all out) s ≡ 1 → r ≡ (leb (size x) 1 || leb (size (bit_xor others x)) 1) → r ≡ near_at all flip out b s
    unfolding near_at
    by_near r e er = er ∙ ap₂ (λ (k j : ℕ). leb (size k) 1 || leb (size j) 1) ex' ey ∙ sym (ap (λ (u : Bool). u && near_but all flip b s) (eq-eqb (has (bit_or all out) s) 1 e))

    pub by-common : (on : Bool) (o r : ℕ) (t' : List ℕ) → has all s ≡ 1 → on ≡ eqb (has (bit_xor b flip) s) 1 → o ≡ without out all
        → (r ≡ looks_by out (size x) (size (bit_xor others x)) (bit_and o b) (bit_xor o (bit_and o b)))
        × (t' ≡ halved (not on) (worth out (bit_xor o (bit_and o b))) all (bit_xor others x) (bit_xor o (bit_and o b)) (bit_and o b) (halved on (worth out (bit_and o b)) all x (bit_and o b) (bit_xor o (bit_and o b)) t))
        → (r ≡ looks_of all flip out b s) × (t' ≡ swayed all flip out b s t)
    by-common on o r t' e p q h = (
      h.0
          ∙ ap₂ (λ (k j : ℕ). looks_by out k j (bit_and o b) (bit_xor o (bit_and o b))) (ap size ex') (ap size ey)
          ∙ ap (λ (m : ℕ). looks_by out (size (side_but all flip b s)) (size (back_but all flip b s)) (bit_and m b) (bit_xor m (bit_and m b))) q
          ∙ sym (move-common e).0,
      h.1
          ∙ ap₂ (λ (k j : ℕ). halved (not on) (worth out (bit_xor o (bit_and o b))) all j (bit_xor o (bit_and o b)) (bit_and o b) (halved on (worth out (bit_and o b)) all k (bit_and o b) (bit_xor o (bit_and o b)) t)) ex' ey
          ∙ ap₂
          (λ (u : Bool) (m : ℕ). halved (not u) (worth out (bit_xor m (bit_and m b))) all (back_but all flip b s) (bit_xor m (bit_and m b)) (bit_and m b) (halved u (worth out (bit_and m b)) all (side_but all flip b s) (bit_and m b) (bit_xor m (bit_and m b)) t))
          p q
          ∙ sym (move-common e).1,
    )

    pub by-outside : (u near : Bool) (own r : ℕ) (t' : List ℕ) → has out s ≡ 1 → has all s ≡ 0 → u ≡ eqb (has b s) 1 → own ≡ only s
        → near ≡ (leb (size x) 1 || leb (size (bit_xor others x)) 1) → r ≡ cond near 1 0
        → t' ≡ halved (not (not u)) 1 all (bit_xor others x) own 0 (halved (not u) 1 all x own 0 t)
        → (r ≡ looks_of all flip out b s) × (t' ≡ swayed all flip out b s t)
    by-outside u near own r t' e f p q en er h = (
      er
          ∙ ap (λ (w : Bool). cond w 1 0) (en ∙ ap₂ (λ (k j : ℕ). leb (size k) 1 || leb (size j) 1) ex' ey)
          ∙ sym (move-outside e f).0,
      h
          ∙ ap₂ (λ (k j : ℕ). halved (not (not u)) 1 all j own 0 (halved (not u) 1 all k own 0 t)) ex' ey
          ∙ ap₂ (λ (u : Bool) (own : ℕ). halved (not (not u)) 1 all (back_but all flip b s) own 0 (halved (not u) 1 all (side_but all flip b s) own 0 t)) p q
          ∙ sym (move-outside e f).1,
    )
