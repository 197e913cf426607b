-- The set that a field stands for: character by character from its end, and how large its mask is.
use Rattle.std.specs.Prelude.{Some, None}
use mathlib.Core.Path.{◌≡◌, refl, ap, ◌∙◌}
use mathlib.Core.Bool.{Bool, true, false, ◌&&◌, cond, and-false}
use mathlib.Core.List.{List, [], ◌∷◌}
use Prim.Native.Nat.{ℕ, ◌+◌, ◌*◌, ◌-◌, ◌≤◌, ◌<◌, ◌^◌}
use native.Mathlib.Nat.{lt_of_lt_of_le, pow-suc}
use native.Mathlib.Omega.{arith}
use lib.ListN.{length, get_or, drop, length-drop, drop_of_length-le}
use lib.Pow.{pow_mono}
use lib.Dec.{leb, eqb}
use borrow.Author.Tests.{leb-true, le-leb, lt-leb}
use Rattle.rules.specs.Text.{nought, one, dash, digit, set_of, all_of, sized}
use Rattle.rules.specs.declared.Pattern.{Pattern}
use Rattle.read_fields.specs.Fields.{places_of, places_in, pattern_in, ones_in}
use Rattle.read_fields.specs.declared.Places.{Places}
use Rattle.read_fields.proofs.Characters.{drop-one, all_drop, sized-short}

pub digit-le : (b : Bool) → digit b ≤ 1
digit-le true = omega arith
digit-le false = omega arith

-- a mask has as many digits as the field has characters
pub set-lt : (c : ℕ) (l : List ℕ) → set_of c l < 2 ^ length l
unfolding set_of
set-lt c [] = omega arith
set-lt c (x ∷ xs) = omega (arith, set-lt c xs, digit-le (eqb x c), pow-suc 2 (length xs))

pub set_below : (n c : ℕ) (l : List ℕ) → length l ≤ n → set_of c l < 2 ^ n
set_below n c l h = lt_of_lt_of_le (set-lt c l) (pow_mono h)

-- a mask of the characters from i on has room for one more
pub set_room : (c : ℕ) (l : List ℕ) (i : ℕ) {m : ℕ} → m ≡ set_of c (drop i l) → 0 < i → length l ≤ 64 → m * 2 + 1 < 2 ^ 64
set_room c l i e p h =
    let s : set_of c (drop i l) < 2 ^ 63 = set_below 63 c (drop i l) (rw length-drop (omega arith)) in
    omega arith

pub set-step : (c : ℕ) (l : List ℕ) (i : ℕ) → i < length l → set_of c (drop i l) ≡ set_of c (drop (i + 1) l) * 2 + digit (eqb (get_or l i 0) c)
unfolding set_of
set-step c l i h = rw (drop-one l i h)

-- the same, for a loop that goes down
pub set_back : (c : ℕ) (l : List ℕ) (i : ℕ) → 0 < i → i ≤ length l → set_of c (drop (i - 1) l) ≡ set_of c (drop i l) * 2 + digit (eqb (get_or l (i - 1) 0) c)
set_back c l i p h =
    let k : i - 1 + 1 ≡ i = omega arith in
    set-step c l (i - 1) (omega arith) ∙ rw k

pub set-end : (c : ℕ) (l : List ℕ) → set_of c (drop (length l) l) ≡ 0
unfolding set_of
set-end c l = rw (drop_of_length-le l {i = length l} (omega arith))

-- ---- a field of three kinds of characters

module _ (a b c : ℕ) (f : List ℕ) where
  pub places-long : 64 < length f → places_of a b c f ≡ None
  unfolding places_of
  places-long h = rw (lt-leb _ _ h)

  pub places-bad : (i : ℕ) → all_of a b c (drop i f) ≡ false → places_of a b c f ≡ None
  unfolding places_of
  places-bad i e = rw (all_drop a b c f i e, and-false (leb (length f) 64))

  pub places-good : {m n : ℕ} → length f ≤ 64 → all_of a b c f ≡ true → m ≡ set_of b f → n ≡ set_of c f → Some (record { second = m; third = n }) ≡ places_of a b c f
  unfolding places_of
  places-good h e p q = rw (le-leb _ _ h, e, p, q)

  -- a field that is sized, or not, where only a mask's length is let in
  module _ (most k : ℕ) (short : length f ≤ most → length f ≤ 64) where
    pub places-sized : {t : Bool} → sized most k a b c f ≡ t → places_in most k a b c f ≡ cond t (Some (record { second = set_of b f; third = set_of c f })) None
    unfolding places_in sized places_of
    places-sized e = go (leb (length f) most) refl (eqb (length f) k) ∙ ap (λ (t : Bool). cond t (Some (record { second = set_of b f; third = set_of c f })) None) e
      where
        go : (t : Bool) → leb (length f) most ≡ t → (s : Bool) → cond (t && s) (places_of a b c f) None ≡ cond (t && (s && all_of a b c f)) (Some (record { second = set_of b f; third = set_of c f })) None
        go false e s = refl
        go true e false = refl
        go true e true = rw (le-leb (length f) 64 (short (leb-true (length f) most e)))

    pub places-read : {p : Places} → places_in most k a b c f ≡ Some p → (sized most k a b c f ≡ true) × (p.second ≡ set_of b f) × (p.third ≡ set_of c f)
    places-read {p} r = go (sized most k a b c f) refl
      where
        go : (t : Bool) → sized most k a b c f ≡ t → (sized most k a b c f ≡ true) × (p.second ≡ set_of b f) × (p.third ≡ set_of c f)
        go true e =
            let s = places-sized e in
            let q : p ≡ record { second = set_of b f; third = set_of c f } = cc in
            (e, ap (λ (o : Places). o.second) q, ap (λ (o : Places). o.third) q)
        go false e = let p = places-sized e in let z : ◌≡◌ {A = ℕ} 0 1 = cc in absurd (omega arith)

    pub places-none : places_in most k a b c f ≡ None → sized most k a b c f ≡ false
    places-none r = go (sized most k a b c f) refl
      where
        go : (t : Bool) → sized most k a b c f ≡ t → sized most k a b c f ≡ false
        go true e = let p = places-sized e in let z : ◌≡◌ {A = ℕ} 0 1 = cc in absurd (omega arith)
        go false e = e

-- ---- a field of `0 1 -`

module _ (most k : ℕ) (f : List ℕ) where
  pub pattern-long : 32 < length f → pattern_in most k f ≡ None
  unfolding pattern_in
  pattern-long h = rw (lt-leb _ _ h)

  pub pattern-unfit : sized most k nought one dash f ≡ false → pattern_in most k f ≡ None
  unfolding pattern_in
  pattern-unfit e = rw (e, and-false (leb (length f) 32))

  pattern-good : length f ≤ 32 → sized most k nought one dash f ≡ true → pattern_in most k f ≡ Some (record { ones = set_of one f; dashes = set_of dash f })
  unfolding pattern_in
  pattern-good h e = rw (le-leb _ _ h, e)

  -- what was read are the pattern's masks, and they fit it
  pub pattern-told : {p : Places} → length f ≤ 32 → places_in most k nought one dash f ≡ Some p
      → (p.second < 2 ^ 32) × (p.third < 2 ^ 32) × (pattern_in most k f ≡ Some (record { ones = p.second; dashes = p.third }))
  pattern-told h e =
      let r = places-read nought one dash f most k (λ l. omega arith) e in
      (rw r.1 (set_below 32 one f h), rw r.2 (set_below 32 dash f h), rw (r.1, r.2) (pattern-good h r.0))

  -- the same from the pattern, within the limit of one
  pub pattern-read : {p : Pattern} → most ≤ 32 → pattern_in most k f ≡ Some p
      → (sized most k nought one dash f ≡ true) × (p ≡ record { ones = set_of one f; dashes = set_of dash f })
  pattern-read {p} h r = go (sized most k nought one dash f) refl
    where
      go : (t : Bool) → sized most k nought one dash f ≡ t → (sized most k nought one dash f ≡ true) × (p ≡ record { ones = set_of one f; dashes = set_of dash f })
      go true e = let q = pattern-good (omega (arith, sized-short most k nought one dash f e)) e in (e, cc)
      go false e = let q = pattern-unfit e in let z : ◌≡◌ {A = ℕ} 0 1 = cc in absurd (omega arith)

  pub pattern-none : most ≤ 32 → pattern_in most k f ≡ None → sized most k nought one dash f ≡ false
  pattern-none h r = go (sized most k nought one dash f) refl
    where
      go : (t : Bool) → sized most k nought one dash f ≡ t → sized most k nought one dash f ≡ false
      go true e = let q = pattern-good (omega (arith, sized-short most k nought one dash f e)) e in let z : ◌≡◌ {A = ℕ} 0 1 = cc in absurd (omega arith)
      go false e = e

  -- a pattern is what a sized field says, within the limit of one
  pub pattern-sized : most ≤ 32 → pattern_in most k f ≡ cond (sized most k nought one dash f) (Some (record { ones = set_of one f; dashes = set_of dash f })) None
  pattern-sized h = go (sized most k nought one dash f) refl
    where
      go : (t : Bool) → sized most k nought one dash f ≡ t → pattern_in most k f ≡ cond t (Some (record { ones = set_of one f; dashes = set_of dash f })) None
      go true e = pattern-good (omega (arith, sized-short most k nought one dash f e)) e
      go false e = pattern-unfit e

-- ---- a field of `0 1`

module _ (most k : ℕ) (f : List ℕ) where
  pub ones-places : places_in most k nought one one f ≡ cond (leb (length f) 64 && sized most k nought one one f) (Some (record { second = set_of one f; third = set_of one f })) None
  unfolding places_in places_of sized
  ones-places = go (leb (length f) most) (eqb (length f) k) (leb (length f) 64) (all_of nought one one f) _ _
    where
      go : (a b c d : Bool) {A : Type 0} (u v : A) → cond (a && b) (cond (c && d) u v) v ≡ cond (c && (a && (b && d))) u v
      go true true c d u v = refl
      go true false true d u v = refl
      go true false false d u v = refl
      go false b true d u v = refl
      go false b false d u v = refl

  -- within the limit of a mask
  pub ones-sized : most ≤ 64 → ones_in most k f ≡ cond (sized most k nought one one f) (Some (set_of one f)) None
  unfolding ones_in
  ones-sized h = go (sized most k nought one one f) refl
    where
      go : (t : Bool) → sized most k nought one one f ≡ t → cond (leb (length f) 64 && t) (Some (set_of one f)) None ≡ cond t (Some (set_of one f)) None
      go true e = rw (le-leb (length f) 64 (omega (arith, sized-short most k nought one one f e)))
      go false e = rw (and-false (leb (length f) 64))

  pub ones-read : {m : ℕ} → most ≤ 64 → ones_in most k f ≡ Some m → (sized most k nought one one f ≡ true) × (m ≡ set_of one f)
  ones-read {m} h r = go (sized most k nought one one f) refl
    where
      go : (t : Bool) → sized most k nought one one f ≡ t → (sized most k nought one one f ≡ true) × (m ≡ set_of one f)
      go true e = let q = ones-sized h in (e, cc)
      go false e = let q = ones-sized h in let z : ◌≡◌ {A = ℕ} 0 1 = cc in absurd (omega arith)

pub ruleset ones = (ones-places)
