-- How many of a family's requirements a move looks at, by the sizes of the two sides without the moved state.
use mathlib.Core.Path.{◌≡◌, refl, sym, ap, ap₂, ◌∙◌}
use mathlib.Core.Bool.{Bool, true, false, ◌&&◌, ◌||◌, cond}
use mathlib.Core.List.{[], ◌∷◌, map}
use Prim.Native.Nat.{ℕ, zero, suc, ◌+◌, ◌-◌, ◌%◌, ◌^◌, ◌<◌, min}
use native.Mathlib.Nat.{add-zero}
use native.Mathlib.Decide.{ℕ_discrete}
use native.Mathlib.Omega.{arith}
use lib.Bits.{bit_and, bit_or, bit_xor, and_le_r, and_comm}
use lib.Dec.{eqb, leb}
use lib.Pow.{pow_pos, pow-lt}
use borrow.Author.Tests.{eq-eqb, ne_eqb, eqb-true, le-leb, lt-leb, leb-true, leb-false}
use Rattle.sets.specs.Sets.{has, only, flip as turn, size, total, states_from}
use Rattle.sets.proofs.Members.{has-lt, has-and, has-or, has-none, has-only, has_other, has-flip, has-flip-other}
use Rattle.sets.proofs.Totals.{total-same}
use Rattle.sets.proofs.Size.{size-total, size-change, none-size}
use Rattle.rules.specs.Looks.{near, member, looks_at, move_looks}
use Rattle.rules.proofs.Meeting.{one_way, other_way}
use Rattle.rules.proofs.Or.{or-first, or-second, neither}
use Rattle.families.specs.Families.{without, inside, single, joined, requirements_of}
use Rattle.move_halves.specs.Halves.{side, back, ones, zeros, side_but, back_but, near_but, looks_by, looks_of}
use Rattle.move_halves.proofs.Levels.{only_out, only-in}
use Rattle.families.proofs.Parts.{part-lt, rest_lt, has_rest}
use Rattle.move_halves.proofs.Sums.{looks-counted, counted-all, over, over-in, over-out, total-add, total-cond}
use Rattle.move_halves.proofs.Sides.{digit, has-side, has-back, single-one, single-other, joined-one, joined-other}
use Rattle.move_halves.proofs.Meets.{outside-at, ones-at, zeros-at, ones_none, zeros-none}

-- ---- the sides with and without the moved state

module _ (n all flip b c s : ℕ) (ha : all < 2 ^ n) (hs : s < n) (same : (t : ℕ) → (t ≡ s → ⊥) → has c t ≡ has b t) where
  others : (t : ℕ) → (t ≡ s → ⊥) → has (without all (only s)) t ≡ has all t
  others t d = omega (arith, has_rest all (only s) t, has_other s t d, has-lt all t)

  not-s : has (without all (only s)) s ≡ 0
  not-s = omega (arith, has_rest all (only s) s, has-only s, has-lt all s)

  -- at a bit c that differs from b at most at s
  pub size-side : size (side all flip c) ≡ size (side_but all flip b s) + has (side all flip c) s
  size-side =
      let e : size (side all flip c) + has (side_but all flip b s) s ≡ size (side_but all flip b s) + has (side all flip c) s =
      size-change n (side all flip c) (side_but all flip b s) s (part-lt n all (bit_xor c flip) ha) (part-lt n (without all (only s)) (bit_xor b flip) (rest_lt n all (only s) ha)) hs each in
      omega (arith, has-side (without all (only s)) flip b s, not-s)
    where
      each : (t : ℕ) → (t ≡ s → ⊥) → has (side all flip c) t ≡ has (side_but all flip b s) t
      each t d =
          has-side all flip c t
          ∙ ap₂ (λ (x y : ℕ). min x ((y + has flip t) % 2)) (sym (others t d)) (same t d)
          ∙ sym (has-side (without all (only s)) flip b t)

  pub size_back : size (back all flip c) ≡ size (back_but all flip b s) + has (back all flip c) s
  size_back =
      let e : size (back all flip c) + has (back_but all flip b s) s ≡ size (back_but all flip b s) + has (back all flip c) s =
      size-change n (back all flip c) (back_but all flip b s) s (rest_lt n all (bit_xor c flip) ha) (rest_lt n (without all (only s)) (bit_xor b flip) (rest_lt n all (only s) ha)) hs each in
      omega (arith, has-back (without all (only s)) flip b s, not-s)
    where
      each : (t : ℕ) → (t ≡ s → ⊥) → has (back all flip c) t ≡ has (back_but all flip b s) t
      each t d =
          has-back all flip c t
          ∙ ap₂ (λ (x y : ℕ). (x + min x ((y + has flip t) % 2)) % 2) (sym (others t d)) (same t d)
          ∙ sym (has-back (without all (only s)) flip b t)

-- a member in common stands in the one side or in the other
pub side-in : (all flip c s : ℕ) → has all s ≡ 1 → has (side all flip c) s ≡ (has c s + has flip s) % 2
side-in all flip c s e = has-side all flip c s ∙ ap (λ (x : ℕ). min x ((has c s + has flip s) % 2)) e ∙ go ((has c s + has flip s) % 2) (omega arith)
  where
    go : (v : ℕ) → v < 2 → min 1 v ≡ v
    go v h = omega arith

pub back_in : (all flip c s : ℕ) → has all s ≡ 1 → has (back all flip c) s ≡ 1 - (has c s + has flip s) % 2
back_in all flip c s e =
    has-back all flip c s ∙ ap (λ (x : ℕ). (x + min x ((has c s + has flip s) % 2)) % 2) e ∙ go ((has c s + has flip s) % 2) (omega arith)
  where
    go : (v : ℕ) → v < 2 → (1 + min 1 v) % 2 ≡ 1 - v
    go v h = digit (λ v. (1 + min 1 v) % 2 ≡ 1 - v) v h refl refl

-- the sizes before and after: v is 1 where s is in side before
pub record Sizes (all flip b s v v' : ℕ) : Type 0 where
  pub side-b : size (side all flip b) ≡ size (side_but all flip b s) + v
  pub back-b : size (back all flip b) ≡ size (back_but all flip b s) + v'
  pub side-a : size (side all flip (turn b s)) ≡ size (side_but all flip b s) + v'
  pub back_a : size (back all flip (turn b s)) ≡ size (back_but all flip b s) + v

module _ (n all flip b s : ℕ) (ha : all < 2 ^ n) (hs : s < n) where
  -- s has the other value after the move
  pub value : (has (turn b s) s + has flip s) % 2 ≡ 1 - (has b s + has flip s) % 2
  value = ap (λ (d : ℕ). (d + has flip s) % 2) (has-flip b s) ∙ go (has b s) (has-lt b s) (has flip s) (has-lt flip s)
    where
      go : (x : ℕ) → x < 2 → (y : ℕ) → y < 2 → ((1 - x) + y) % 2 ≡ 1 - (x + y) % 2
      go x p y q =
          digit (λ x. ((1 - x) + y) % 2 ≡ 1 - (x + y) % 2) x p
          (digit (λ y. (1 + y) % 2 ≡ 1 - (0 + y) % 2) y q refl refl)
          (digit (λ y. (0 + y) % 2 ≡ 1 - (1 + y) % 2) y q refl refl)

  pub sizes-in : has all s ≡ 1 → Sizes all flip b s ((has b s + has flip s) % 2) (1 - (has b s + has flip s) % 2)
  sizes-in e =
      let v : ℕ = (has b s + has flip s) % 2 in
      let x : ℕ = size (side_but all flip b s) in
      let y : ℕ = size (back_but all flip b s) in
      record {
        side-b = size-side n all flip b b s ha hs (λ t _. refl) ∙ ap (λ (d : ℕ). x + d) (side-in all flip b s e);
        back-b = size_back n all flip b b s ha hs (λ t _. refl) ∙ ap (λ (d : ℕ). y + d) (back_in all flip b s e);
        side-a = size-side n all flip b (turn b s) s ha hs (has-flip-other b s) ∙ ap (λ (d : ℕ). x + d) (side-in all flip (turn b s) s e ∙ value);
        back_a =
            size_back n all flip b (turn b s) s ha hs (has-flip-other b s)
            ∙ ap (λ (d : ℕ). y + d) (back_in all flip (turn b s) s e ∙ ap (λ (d : ℕ). 1 - d) value ∙ twice v (omega arith));
      }
    where
      twice : (v : ℕ) → v < 2 → 1 - (1 - v) ≡ v
      twice v h = omega arith

  pub sizes-out : has all s ≡ 0 → Sizes all flip b s 0 0
  sizes-out e = record {
    side-b = omega (arith, size-side n all flip b b s ha hs (λ t _. refl), has-side all flip b s);
    back-b = omega (arith, size_back n all flip b b s ha hs (λ t _. refl), has-back all flip b s);
    side-a = omega (arith, size-side n all flip b (turn b s) s ha hs (has-flip-other b s), has-side all flip (turn b s) s);
    back_a = omega (arith, size_back n all flip b (turn b s) s ha hs (has-flip-other b s), has-back all flip (turn b s) s);
  }

-- ---- tests

or-leb : (x y : ℕ) → (leb x 1 || leb y 1) ≡ leb (min x y) 1
or-leb x y = go (leb x 1) (leb y 1) refl refl
  where
    go : (p q : Bool) → leb x 1 ≡ p → leb y 1 ≡ q → (p || q) ≡ leb (min x y) 1
    go true q e f = sym (le-leb (min x y) 1 (omega (arith, leb-true x 1 e)))
    go false true e f = sym (le-leb (min x y) 1 (omega (arith, leb-true y 1 f)))
    go false false e f = sym (lt-leb (min x y) 1 (omega (arith, leb-false x 1 e, leb-false y 1 f)))

or-none : (x y : ℕ) → (leb x 1 || eqb y 0) ≡ leb (min x (y + 1)) 1
or-none x y = ap (λ (t : Bool). leb x 1 || t) (go y) ∙ or-leb x (y + 1)
  where
    go : (y : ℕ) → eqb y 0 ≡ leb (y + 1) 1
    go zero = refl
    go (suc y) = ne_eqb (suc y) 0 (λ e. omega arith) ∙ sym (lt-leb (suc y + 1) 1 (omega arith))

-- near by the two counts, before or after
either-near : (x y u v : ℕ) → ((leb x 1 || leb y 1) || (leb u 1 || leb v 1)) ≡ leb (min (min x y) (min u v)) 1
either-near x y u v = ap₂ ◌||◌ (or-leb x y) (or-leb u v) ∙ or-leb (min x y) (min u v)

-- ---- one requirement

module _ (n all flip b s : ℕ) (ha : all < 2 ^ n) (hs : s < n) where
  -- the move of a member in common
  module _ (e : has all s ≡ 1) where
    single-member : member (single all flip) s ≡ true
    single-member = go (has flip s) refl
      where
        go : (d : ℕ) → has flip s ≡ d → member (single all flip) s ≡ true
        go zero f = or-first (eqb (has (without all flip) s) 1) (eqb (has (bit_and all flip) s) 1) (eq-eqb (has (without all flip) s) 1 (omega (arith, has_rest all flip s)))
        go (suc d) f = or-second (eqb (has (without all flip) s) 1) (eqb (has (bit_and all flip) s) 1) (eq-eqb (has (bit_and all flip) s) 1 (omega (arith, has-and all flip s, has-lt flip s)))

    single-look : looks_at n (single all flip) b s ≡ (leb (size (side_but all flip b s)) 1 || leb (size (back_but all flip b s)) 1)
    unfolding looks_at near
    single-look =
        let z = sizes-in n all flip b s ha hs e in
        let v : ℕ = (has b s + has flip s) % 2 in
        let x : ℕ = size (side_but all flip b s) in
        let y : ℕ = size (back_but all flip b s) in
        let h : min (min (one_way n (single all flip) b) (other_way n (single all flip) b)) (min (one_way n (single all flip) (turn b s)) (other_way n (single all flip) (turn b s))) ≡ min x y =
        least x y v (one_way n (single all flip) b) (other_way n (single all flip) b) (one_way n (single all flip) (turn b s)) (other_way n (single all flip) (turn b s)) (omega arith)
        (single-one n all flip b ha ∙ z.side-b) (single-other n all flip b ha ∙ z.back-b) (single-one n all flip (turn b s) ha ∙ z.side-a) (single-other n all flip (turn b s) ha ∙ z.back_a) in
        ap₂ ◌&&◌ single-member (either-near (one_way n (single all flip) b) (other_way n (single all flip) b) (one_way n (single all flip) (turn b s)) (other_way n (single all flip) (turn b s)))
        ∙ ap (λ (k : ℕ). leb k 1) h
        ∙ sym (or-leb x y)
      where
        least : (x y v o p o' p' : ℕ) → v < 2 → o ≡ x + v → p ≡ y + (1 - v) → o' ≡ x + (1 - v) → p' ≡ y + v → min (min o p) (min o' p') ≡ min x y
        least x y v o p o' p' h a b c d = omega arith

    module _ (t : ℕ) (ht : t < n) (o : has all t ≡ 0) where
      joined-member : member (joined all flip t) s ≡ true
      joined-member = go (has flip s) refl
        where
          go : (d : ℕ) → has flip s ≡ d → member (joined all flip t) s ≡ true
          go zero f = or-first (eqb (has (without all flip) s) 1) (eqb (has (bit_or (bit_and all flip) (only t)) s) 1) (eq-eqb (has (without all flip) s) 1 (omega (arith, has_rest all flip s)))
          go (suc d) f =
              or-second (eqb (has (without all flip) s) 1) (eqb (has (bit_or (bit_and all flip) (only t)) s) 1)
              (eq-eqb (has (bit_or (bit_and all flip) (only t)) s) 1 (omega (arith, has-or (bit_and all flip) (only t) s, has-and all flip s, has-lt flip s, has-lt (only t) s)))

      other : t ≡ s → ⊥
      other d = omega (arith, ap (has all) d)

      pub joined-look : looks_at n (joined all flip t) b s ≡ leb (min (size (side_but all flip b s) + (1 - has b t)) (size (back_but all flip b s) + has b t)) 1
      unfolding looks_at near
      joined-look =
          let z = sizes-in n all flip b s ha hs e in
          let r = joined all flip t in
          let x : ℕ = size (side_but all flip b s) in
          let y : ℕ = size (back_but all flip b s) in
          let k : has (turn b s) t ≡ has b t = has-flip-other b s t other in
          let h : min (min (one_way n r b) (other_way n r b)) (min (one_way n r (turn b s)) (other_way n r (turn b s))) ≡ min (x + (1 - has b t)) (y + has b t) =
          least x y ((has b s + has flip s) % 2) (has b t) (one_way n r b) (other_way n r b) (one_way n r (turn b s)) (other_way n r (turn b s)) (omega arith) (has-lt b t)
          (joined-one n all flip b ha t ht o ∙ ap (λ (m : ℕ). m + 1) z.side-b)
          (joined-other n all flip b ha t ht o ∙ ap (λ (m : ℕ). m + has b t) z.back-b)
          (ap (λ (m : ℕ). one_way n r (turn b s) + m) (sym k) ∙ joined-one n all flip (turn b s) ha t ht o ∙ ap (λ (m : ℕ). m + 1) z.side-a)
          (joined-other n all flip (turn b s) ha t ht o ∙ ap₂ (λ (m d : ℕ). m + d) z.back_a k) in
          ap₂ ◌&&◌ joined-member (either-near (one_way n r b) (other_way n r b) (one_way n r (turn b s)) (other_way n r (turn b s)))
          ∙ ap (λ (k : ℕ). leb k 1) h
        where
          least : (x y v d o p o' p' : ℕ) → v < 2 → d < 2 → o + d ≡ x + v + 1 → p ≡ y + (1 - v) + d → o' + d ≡ x + (1 - v) + 1 → p' ≡ y + v + d
              → min (min o p) (min o' p') ≡ min (x + (1 - d)) (y + d)
          least x y zero d o p o' p' h i a b c f = omega arith
          least x y (suc zero) d o p o' p' h i a b c f = omega arith
          least x y (suc (suc v)) d o p o' p' h i a b c f = absurd (omega arith)

  -- the move of the state outside
  module _ (e : has all s ≡ 0) where
    own-member : member (joined all flip s) s ≡ true
    own-member =
        or-second (eqb (has (without all flip) s) 1) (eqb (has (bit_or (bit_and all flip) (only s)) s) 1)
        (eq-eqb (has (bit_or (bit_and all flip) (only s)) s) 1 (omega (arith, has-or (bit_and all flip) (only s) s, has-only s, has-lt (bit_and all flip) s)))

    pub own-look : looks_at n (joined all flip s) b s ≡ (leb (size (side_but all flip b s)) 1 || leb (size (back_but all flip b s)) 1)
    unfolding looks_at near
    own-look =
        let z = sizes-out n all flip b s ha hs e in
        let r = joined all flip s in
        let x : ℕ = size (side_but all flip b s) in
        let y : ℕ = size (back_but all flip b s) in
        let h : min (min (one_way n r b) (other_way n r b)) (min (one_way n r (turn b s)) (other_way n r (turn b s))) ≡ min x y =
        least x y (has b s) (has (turn b s) s) (one_way n r b) (other_way n r b) (one_way n r (turn b s)) (other_way n r (turn b s)) (has-lt b s) (has-flip b s)
        (joined-one n all flip b ha s hs e ∙ ap (λ (m : ℕ). m + 1) z.side-b)
        (joined-other n all flip b ha s hs e ∙ ap (λ (m : ℕ). m + has b s) z.back-b)
        (joined-one n all flip (turn b s) ha s hs e ∙ ap (λ (m : ℕ). m + 1) z.side-a)
        (joined-other n all flip (turn b s) ha s hs e ∙ ap (λ (m : ℕ). m + has (turn b s) s) z.back_a) in
        ap₂ ◌&&◌ own-member (either-near (one_way n r b) (other_way n r b) (one_way n r (turn b s)) (other_way n r (turn b s)))
        ∙ ap (λ (k : ℕ). leb k 1) h
        ∙ sym (or-leb x y)
      where
        least : (x y d d' o p o' p' : ℕ) → d < 2 → d' ≡ 1 - d → o + d ≡ x + 0 + 1 → p ≡ y + 0 + d → o' + d' ≡ x + 0 + 1 → p' ≡ y + 0 + d'
            → min (min o p) (min o' p') ≡ min x y
        least x y zero d' o p o' p' h i a b c f = omega arith
        least x y (suc zero) d' o p o' p' h i a b c f = omega arith
        least x y (suc (suc v)) d' o p o' p' h i a b c f = absurd (omega arith)

    -- a requirement of which s is no member
    single-none : looks_at n (single all flip) b s ≡ false
    unfolding looks_at
    single-none =
        ap (λ (t : Bool). t && (near n (single all flip) b || near n (single all flip) (turn b s)))
        (neither (eqb (has (without all flip) s) 1) (eqb (has (bit_and all flip) s) 1)
        (ne_eqb (has (without all flip) s) 1 (λ d. omega (arith, has_rest all flip s)))
        (ne_eqb (has (bit_and all flip) s) 1 (λ d. omega (arith, has-and all flip s))))

    pub joined-none : (t : ℕ) → (s ≡ t → ⊥) → looks_at n (joined all flip t) b s ≡ false
    unfolding looks_at
    joined-none t o =
        ap (λ (u : Bool). u && (near n (joined all flip t) b || near n (joined all flip t) (turn b s)))
        (neither (eqb (has (without all flip) s) 1) (eqb (has (bit_or (bit_and all flip) (only t)) s) 1)
        (ne_eqb (has (without all flip) s) 1 (λ d. omega (arith, has_rest all flip s)))
        (ne_eqb (has (bit_or (bit_and all flip) (only t)) s) 1 (λ d. omega (arith, has-or (bit_and all flip) (only t) s, has-and all flip s, has_other t s o))))

-- ---- the family

-- by the value d of a state outside
by_value : (x y d : ℕ) → d < 2 → cond (leb (min (x + (1 - d)) (y + d)) 1) 1 0 ≡ cond (leb x 1 || eqb y 0) d 0 + cond (leb y 1 || eqb x 0) (1 - d) 0
by_value x y zero h =
    let e : min (x + 1) (y + 0) ≡ min y (x + 1) = omega arith in
    rw (or-none x y, or-none y x, e) (go (leb (min x (y + 1)) 1) (leb (min y (x + 1)) 1))
  where
    go : (p q : Bool) → cond {A = ℕ} q 1 0 ≡ cond p 0 0 + cond q 1 0
    go true true = refl
    go true false = refl
    go false true = refl
    go false false = refl
by_value x y (suc zero) h =
    let e : min (x + 0) (y + 1) ≡ min x (y + 1) = omega arith in
    rw (or-none x y, or-none y x, e) (go (leb (min x (y + 1)) 1) (leb (min y (x + 1)) 1))
  where
    go : (p q : Bool) → cond {A = ℕ} p 1 0 ≡ cond p 1 0 + cond q 0 0
    go true true = refl
    go true false = refl
    go false true = refl
    go false false = refl
by_value x y (suc (suc d)) h = absurd (omega arith)

cond-none : (p : Bool) → cond {A = ℕ} p 0 0 ≡ 0
cond-none true = refl
cond-none false = refl

module _ (n all flip out b s : ℕ) (ha : all < 2 ^ n) (ho : out < 2 ^ n) (hw : out < 2 ^ 64) (hs : s < n) where
  -- the look at the requirement of a state outside
  look : ℕ → ℕ
  look t = cond (looks_at n (joined all flip t) b s) 1 0

  group-sum : (f : ℕ → ℕ) → ((t : ℕ) → t < 64 → over (without out all) look t ≡ f t)
      → move_looks n (map (joined all flip) (inside (without out all) (states_from 0 64))) b s ≡ total 64 f
  unfolding look
  group-sum f h =
      looks-counted n b (joined all flip) s (inside (without out all) (states_from 0 64)) ∙ counted-all (without out all) look ∙ total-same 64 (over (without out all) look) f h

  x : ℕ
  x = size (side_but all flip b s)

  y : ℕ
  y = size (back_but all flip b s)

  -- the move of a member in common
  group-in : has all s ≡ 1 → move_looks n (map (joined all flip) (inside (without out all) (states_from 0 64))) b s
      ≡ cond (leb x 1 || eqb y 0) (size (ones (without out all) b)) 0 + cond (leb y 1 || eqb x 0) (size (zeros (without out all) b)) 0
  unfolding look x y
  group-in e =
      let p : Bool = leb x 1 || eqb y 0 in
      let r : Bool = leb y 1 || eqb x 0 in
      let o : ℕ = without out all in
      group-sum (λ t. cond p (has (ones o b) t) 0 + cond r (has (zeros o b) t) 0) (λ t _. each t (has o t) refl)
      ∙ total-add 64 (λ t. cond p (has (ones o b) t) 0) (λ t. cond r (has (zeros o b) t) 0)
      ∙ ap₂ (λ (k j : ℕ). k + j)
      (total-cond 64 p (has (ones o b)) ∙ ap (λ (k : ℕ). cond p k 0) (sym (size-total 64 (ones o b) (part-lt 64 o b (rest_lt 64 out all hw)))))
      (total-cond 64 r (has (zeros o b)) ∙ ap (λ (k : ℕ). cond r k 0) (sym (size-total 64 (zeros o b) (rest_lt 64 o b (rest_lt 64 out all hw)))))
    where
      each : (t d : ℕ) → has (without out all) t ≡ d
          → over (without out all) look t ≡ cond (leb x 1 || eqb y 0) (has (ones (without out all) b) t) 0 + cond (leb y 1 || eqb x 0) (has (zeros (without out all) b) t) 0
      each t zero f =
          over-out (without out all) look t f
          ∙ sym (ap₂ (λ (k j : ℕ). cond (leb x 1 || eqb y 0) k 0 + cond (leb y 1 || eqb x 0) j 0) (ones_none (without out all) b t f) (zeros-none (without out all) b t f)
          ∙ ap₂ (λ (k j : ℕ). k + j) (cond-none (leb x 1 || eqb y 0)) (cond-none (leb y 1 || eqb x 0)))
      each t (suc d) f =
          let i : has (without out all) t ≡ 1 = omega (arith, has-lt (without out all) t) in
          let h = outside-at n all out t ho i in
          over-in (without out all) look t i
          ∙ ap (λ (u : Bool). cond u 1 0) (joined-look n all flip b s ha hs e t h.0 h.1)
          ∙ by_value x y (has b t) (has-lt b t)
          ∙ sym (ap₂ (λ (k j : ℕ). cond (leb x 1 || eqb y 0) k 0 + cond (leb y 1 || eqb x 0) j 0) (ones-at (without out all) b t i) (zeros-at (without out all) b t i))

  -- the move of a state outside: of its own requirement alone it is a member
  group-own : has all s ≡ 0 → move_looks n (map (joined all flip) (inside (without out all) (states_from 0 64))) b s
      ≡ cond (near_but all flip b s) (size (bit_and (only s) (without out all))) 0
  unfolding look x y
  group-own e =
      let o : ℕ = without out all in
      let m : ℕ = bit_and (only s) o in
      let p : Bool = near_but all flip b s in
      group-sum (λ t. cond p (has m t) 0) (λ t _. each t (has o t) refl (ℕ_discrete t s))
      ∙ total-cond 64 p (has m)
      ∙ ap (λ (k : ℕ). cond p k 0) (sym (size-total 64 m (omega (arith, and_le_r (only s) o, rest_lt 64 out all hw))))
    where
      each : (t d : ℕ) → has (without out all) t ≡ d → Dec (t ≡ s) → over (without out all) look t ≡ cond (near_but all flip b s) (has (bit_and (only s) (without out all)) t) 0
      each t zero f _ =
          over-out (without out all) look t f
          ∙ sym (ap (λ (k : ℕ). cond (near_but all flip b s) k 0) (omega (arith, has-and (only s) (without out all) t)) ∙ cond-none (near_but all flip b s))
      each t (suc d) f (yes z) =
          let i : has (without out all) t ≡ 1 = omega (arith, has-lt (without out all) t) in
          over-in (without out all) look t i
          ∙ ap (λ (t : ℕ). look t) z
          ∙ ap (λ (u : Bool). cond u 1 0) (own-look n all flip b s ha hs e)
          ∙ sym (ap (λ (k : ℕ). cond (near_but all flip b s) k 0) (omega (arith, has-and (only s) (without out all) t, ap (has (only s)) z, has-only s)))
      each t (suc d) f (no z) =
          let i : has (without out all) t ≡ 1 = omega (arith, has-lt (without out all) t) in
          over-in (without out all) look t i
          ∙ ap (λ (u : Bool). cond u 1 0) (joined-none n all flip b s ha hs e t (λ w. z (sym w)))
          ∙ sym (ap (λ (k : ℕ). cond (near_but all flip b s) k 0) (omega (arith, has-and (only s) (without out all) t, has_other s t z)) ∙ cond-none (near_but all flip b s))

  own-one : has (without out all) s ≡ 1 → size (bit_and (only s) (without out all)) ≡ 1
  own-one e =
      ap size (and_comm (only s) (without out all) ∙ only-in (without out all) s e)
      ∙ omega (arith, size-change n (only s) 0 s (pow-lt hs) (pow_pos n) hs (λ t d. has_other s t d ∙ sym (has-none t)), has-only s, has-none s, none-size n 0 (pow_pos n) (λ t _. has-none t))

  own-none : has (without out all) s ≡ 0 → size (bit_and (only s) (without out all)) ≡ 0
  own-none e = ap size (and_comm (only s) (without out all) ∙ only_out (without out all) s e) ∙ none-size n 0 (pow_pos n) (λ t _. has-none t)

  -- the looks of the move at the family
  pub family-looks : move_looks n (requirements_of all flip out) b s ≡ looks_of all flip out b s
  unfolding requirements_of move_looks looks_of looks_by x y
  family-looks = go (eqb out 0) refl (has all s) refl (has (without out all) s) refl
    where
      go : (t : Bool) → eqb out 0 ≡ t → (d : ℕ) → has all s ≡ d → (k : ℕ) → has (without out all) s ≡ k
          → move_looks n (cond t (single all flip ∷ []) (map (joined all flip) (inside (without out all) (states_from 0 64)))) b s
          ≡ cond (eqb (has all s) 1)
          (cond t (cond (leb (size (side_but all flip b s)) 1 || leb (size (back_but all flip b s)) 1) 1 0)
          (cond (leb (size (side_but all flip b s)) 1 || eqb (size (back_but all flip b s)) 0) (size (ones (without out all) b)) 0 + cond (leb (size (back_but all flip b s)) 1 || eqb (size (side_but all flip b s)) 0) (size (zeros (without out all) b)) 0))
          (cond (eqb (has (without out all) s) 1) (cond (near_but all flip b s) 1 0) 0)
      go true p (suc d) e k f =
          let i : has all s ≡ 1 = omega (arith, has-lt all s) in
          rw (eq-eqb (has all s) 1 i) (add-zero (cond (looks_at n (single all flip) b s) 1 0) ∙ ap (λ (u : Bool). cond u 1 0) (single-look n all flip b s ha hs i))
      go false p (suc d) e k f =
          let i : has all s ≡ 1 = omega (arith, has-lt all s) in
          rw (eq-eqb (has all s) 1 i) (group-in i)
      go true p zero e k f =
          let z : has (without out all) s ≡ 0 = omega (arith, has_rest out all s, ap (λ (m : ℕ). has m s) (eqb-true out 0 p), has-none s) in
          rw (ne_eqb (has all s) 1 (λ d. omega arith), ne_eqb (has (without out all) s) 1 (λ d. omega arith))
          (add-zero (cond (looks_at n (single all flip) b s) 1 0) ∙ ap (λ (u : Bool). cond u 1 0) (single-none n all flip b s ha hs e))
      go false p zero e zero f =
          rw (ne_eqb (has all s) 1 (λ d. omega arith), ne_eqb (has (without out all) s) 1 (λ d. omega arith))
          (group-own e ∙ ap (λ (m : ℕ). cond (near_but all flip b s) m 0) (own-none f) ∙ cond-none (near_but all flip b s))
      go false p zero e (suc k) f =
          let i : has (without out all) s ≡ 1 = omega (arith, has-lt (without out all) s) in
          rw (ne_eqb (has all s) 1 (λ d. omega arith), eq-eqb (has (without out all) s) 1 i)
          (group-own e ∙ ap (λ (m : ℕ). cond (near_but all flip b s) m 0) (own-one i))
