-- A walk meets every requirement once and in order: what is ahead is what stands here and what is ahead of the next place.
use mathlib.Core.Path.{◌≡◌, refl, sym, ap, ◌∙◌}
use mathlib.Core.Bool.{Bool, true, false, not, ◌&&◌, cond, true≢false}
use mathlib.Core.List.{List, [], ◌∷◌, ◌++◌, map}
use Prim.Native.Nat.{ℕ, zero, suc, ◌+◌, ◌^◌, ◌≤◌, ◌<◌}
use native.Mathlib.Omega.{arith}
use lib.Count.{count_trailing_zeros}
use lib.Dec.{ltb, eqb}
use lib.ListN.{length, get_or, drop, length-drop}
use borrow.Author.Tests.{lt-ltb, le-ltb, ltb-true, ltb-false, eq-eqb, ne_eqb, eqb-true, eqb-false}
use Rattle.sets.specs.Sets.{states_from, without_lowest}
use Rattle.sets.proofs.LowestMember.{without-none}
use Rattle.rules.specs.Listing.{no_requirement}
use Rattle.rules.specs.declared.Requirement.{Requirement}
use Rattle.families.specs.Families.{without, inside, single, joined, requirements_of, requirements_in}
use Rattle.families.proofs.Family.{family-one, family-more, none-without}
use Rattle.families.proofs.Walking.{none-walked, lowest-walked}
use Rattle.families.proofs.Words.{three, in_step, in-short}
use Rattle.code_walking.specs.Walking.{entered_in, entered, of_family, ahead, here, next}
use Rattle.code_walking.specs.declared.Walk.{Walk}

-- ---- where a walk enters

module _ (fs : List ℕ) (i : ℕ) where
  -- it has states outside, but all of them are inside too
  abbrev pub asksNone : Bool
  asksNone = eqb (without (get_or fs (i + 2) 0) (get_or fs i 0)) 0 && not (eqb (get_or fs (i + 2) 0) 0)

  entered-three : i + 3 ≤ length fs → entered fs i ≡ cond asksNone (entered_in (i + 3) (drop (i + 3) fs)) (record { at = i; rest = without (get_or fs (i + 2) 0) (get_or fs i 0) })
  unfolding entered entered_in
  entered-three h = ap (entered_in i) (three fs i h)

  pub entered_here : i + 3 ≤ length fs → asksNone ≡ false → entered fs i ≡ record { at = i; rest = without (get_or fs (i + 2) 0) (get_or fs i 0) }
  entered_here h e = entered-three h ∙ ap (λ (t : Bool). cond t (entered_in (i + 3) (drop (i + 3) fs)) (record { at = i; rest = without (get_or fs (i + 2) 0) (get_or fs i 0) })) e

  pub entered-later : i + 3 ≤ length fs → asksNone ≡ true → entered fs i ≡ entered fs (i + 3)
  unfolding entered
  entered-later h e = entered-three h ∙ ap (λ (t : Bool). cond t (entered_in (i + 3) (drop (i + 3) fs)) (record { at = i; rest = without (get_or fs (i + 2) 0) (get_or fs i 0) })) e

  pub entered-over : length fs < i + 3 → entered fs i ≡ record { at = i; rest = 0 }
  unfolding entered entered_in
  entered-over h = short (drop i fs) (omega (arith, length-drop i fs))
    where
      short : (ws : List ℕ) → length ws < 3 → entered_in i ws ≡ record { at = i; rest = 0 }
      short [] q = refl
      short (a ∷ []) q = refl
      short (a ∷ (b ∷ [])) q = refl
      short (a ∷ (b ∷ (c ∷ ws))) q = absurd (omega arith)

-- ---- what is ahead

module _ (fs : List ℕ) (w : Walk) where
  pub over_none : length fs < w.at + 3 → ahead fs w ≡ []
  unfolding ahead
  over_none h = rw (lt-ltb (length fs) (w.at + 3) h)

  ahead-some : w.at + 3 ≤ length fs → ahead fs w ≡ of_family fs w ++ requirements_in (drop (w.at + 3) fs)
  unfolding ahead
  ahead-some h = rw (le-ltb (length fs) (w.at + 3) h)

  of_one : w.rest ≡ 0 → of_family fs w ≡ single (get_or fs w.at 0) (get_or fs (w.at + 1) 0) ∷ []
  unfolding of_family
  of_one e = rw (eq-eqb w.rest 0 e)

  of-more : (w.rest ≡ 0 → ⊥) → of_family fs w ≡ map (joined (get_or fs w.at 0) (get_or fs (w.at + 1) 0)) (inside w.rest (states_from 0 64))
  unfolding of_family
  of-more o = rw (ne_eqb w.rest 0 o)

-- where it enters, all that stand behind
module _ (fs : List ℕ) (i : ℕ) where
  abbrev a : ℕ
  a = get_or fs i 0

  abbrev f : ℕ
  f = get_or fs (i + 1) 0

  abbrev o : ℕ
  o = get_or fs (i + 2) 0

  over-all : length fs < i + 3 → ahead fs (entered fs i) ≡ requirements_in (drop i fs)
  over-all h = ap (ahead fs) (entered-over fs i h) ∙ over_none fs (record { at = i; rest = 0 }) h ∙ sym (in-short (drop i fs) (omega (arith, length-drop i fs)))

  same-family : (t u : Bool) → eqb (without o a) 0 ≡ t → eqb o 0 ≡ u → (t && not u) ≡ false → of_family fs (record { at = i; rest = without o a }) ≡ requirements_of a f o
  same-family true true e z n = of_one fs (record { at = i; rest = without o a }) (eqb-true _ 0 e) ∙ sym (family-one a f o (eqb-true o 0 z))
  same-family true false e z n = absurd (true≢false n)
  same-family false true e z n = absurd (eqb-false (without o a) 0 e (ap (λ (x : ℕ). without x a) (eqb-true o 0 z) ∙ none-without a))
  same-family false false e z n = of-more fs (record { at = i; rest = without o a }) (eqb-false _ 0 e) ∙ sym (family-more a f o (eqb-false o 0 z))

  none-of-family : (t u : Bool) → eqb (without o a) 0 ≡ t → eqb o 0 ≡ u → (t && not u) ≡ true → requirements_of a f o ≡ []
  none-of-family true true e z n = absurd (true≢false (sym n))
  none-of-family true false e z n = family-more a f o (eqb-false o 0 z) ∙ ap (map (joined a f)) (none-walked (without o a) (eqb-true _ 0 e))
  none-of-family false u e z n = absurd (true≢false (sym n))

  here-all : i + 3 ≤ length fs → asksNone fs i ≡ false → ahead fs (entered fs i) ≡ requirements_in (drop i fs)
  here-all h e =
      ap (ahead fs) (entered_here fs i h e)
      ∙ ahead-some fs (record { at = i; rest = without o a }) h
      ∙ ap (λ (rs : List Requirement). rs ++ requirements_in (drop (i + 3) fs)) (same-family (eqb (without o a) 0) (eqb o 0) refl refl e)
      ∙ sym (in_step fs i h)

  later-all : i + 3 ≤ length fs → asksNone fs i ≡ true → ahead fs (entered fs (i + 3)) ≡ requirements_in (drop (i + 3) fs) → ahead fs (entered fs i) ≡ requirements_in (drop i fs)
  later-all h e more =
      ap (ahead fs) (entered-later fs i h e)
      ∙ more
      ∙ sym (in_step fs i h ∙ ap (λ (rs : List Requirement). rs ++ requirements_in (drop (i + 3) fs)) (none-of-family (eqb (without o a) 0) (eqb o 0) refl refl e))

  enter-cases : (t u : Bool) → ltb (length fs) (i + 3) ≡ t → asksNone fs i ≡ u → ahead fs (entered fs (i + 3)) ≡ requirements_in (drop (i + 3) fs) → ahead fs (entered fs i) ≡ requirements_in (drop i fs)
  enter-cases true u e z more = over-all (ltb-true _ _ e)
  enter-cases false false e z more = here-all (ltb-false _ _ e) z
  enter-cases false true e z more = later-all (ltb-false _ _ e) z more

-- at most k words more
enter-within : (fs : List ℕ) (k i : ℕ) → length fs ≤ i + k → ahead fs (entered fs i) ≡ requirements_in (drop i fs)
enter-within fs zero i h = over-all fs i (omega arith)
enter-within fs (suc k) i h = enter-cases fs i (ltb (length fs) (i + 3)) (asksNone fs i) refl refl (enter-within fs k (i + 3) (omega arith))

pub entered-ahead : (fs : List ℕ) (i : ℕ) → ahead fs (entered fs i) ≡ requirements_in (drop i fs)
entered-ahead fs i = enter-within fs (length fs) i (omega arith)

-- from the start, all of them
pub begun-ahead : (fs : List ℕ) → ahead fs (entered fs 0) ≡ requirements_in fs
begun-ahead fs = entered-ahead fs 0

-- ---- where it is over

module _ (fs : List ℕ) (w : Walk) (h : length fs < w.at + 3) where
  pub here-over : here fs w ≡ no_requirement
  unfolding here
  here-over = rw (lt-ltb (length fs) (w.at + 3) h)

  pub next-over : next fs w ≡ w
  unfolding next
  next-over = rw (lt-ltb (length fs) (w.at + 3) h)

-- ---- one step

module _ (fs : List ℕ) (w : Walk) (h : w.at + 3 ≤ length fs) where
  pub here-one : w.rest ≡ 0 → here fs w ≡ single (get_or fs w.at 0) (get_or fs (w.at + 1) 0)
  unfolding here
  here-one e = rw (le-ltb (length fs) (w.at + 3) h, eq-eqb w.rest 0 e)

  pub here-more : (w.rest ≡ 0 → ⊥) → here fs w ≡ joined (get_or fs w.at 0) (get_or fs (w.at + 1) 0) (count_trailing_zeros 64 w.rest)
  unfolding here
  here-more o = rw (le-ltb (length fs) (w.at + 3) h, ne_eqb w.rest 0 o)

  pub next-family : without_lowest w.rest ≡ 0 → next fs w ≡ entered fs (w.at + 3)
  unfolding next
  next-family e = rw (le-ltb (length fs) (w.at + 3) h, eq-eqb (without_lowest w.rest) 0 e)

  pub next-state : (without_lowest w.rest ≡ 0 → ⊥) → next fs w ≡ record { at = w.at; rest = without_lowest w.rest }
  unfolding next
  next-state o = rw (le-ltb (length fs) (w.at + 3) h, ne_eqb (without_lowest w.rest) 0 o)

  -- what is ahead of the next place: the family's others, and what stands behind the family
  next-ahead : (t : Bool) → eqb (without_lowest w.rest) 0 ≡ t
      → ahead fs (next fs w) ≡ map (joined (get_or fs w.at 0) (get_or fs (w.at + 1) 0)) (inside (without_lowest w.rest) (states_from 0 64)) ++ requirements_in (drop (w.at + 3) fs)
  next-ahead true e =
      let z = eqb-true (without_lowest w.rest) 0 e in
      ap (ahead fs) (next-family z)
      ∙ entered-ahead fs (w.at + 3)
      ∙ sym (ap (λ (ts : List ℕ). map (joined (get_or fs w.at 0) (get_or fs (w.at + 1) 0)) ts ++ requirements_in (drop (w.at + 3) fs)) (none-walked (without_lowest w.rest) z))
  next-ahead false e =
      let o = eqb-false (without_lowest w.rest) 0 e in
      let v : Walk = record { at = w.at; rest = without_lowest w.rest } in
      ap (ahead fs) (next-state o) ∙ ahead-some fs v h ∙ ap (λ (rs : List Requirement). rs ++ requirements_in (drop (w.at + 3) fs)) (of-more fs v o)

  abbrev g : ℕ → Requirement
  g = joined (get_or fs w.at 0) (get_or fs (w.at + 1) 0)

  abbrev others : List Requirement
  others = requirements_in (drop (w.at + 3) fs)

  pub ahead_step : w.rest < 2 ^ 64 → ahead fs w ≡ here fs w ∷ ahead fs (next fs w)
  ahead_step fits = go (eqb w.rest 0) refl
    where
      go : (t : Bool) → eqb w.rest 0 ≡ t → ahead fs w ≡ here fs w ∷ ahead fs (next fs w)
      go true e =
          let z = eqb-true w.rest 0 e in
          ahead-some fs w h
          ∙ ap (λ (rs : List Requirement). rs ++ others) (of_one fs w z)
          ∙ ap {B = List Requirement} (λ r. r ∷ others) (sym (here-one z))
          ∙ ap (λ (rs : List Requirement). here fs w ∷ rs) (sym (ap (ahead fs) (next-family (without-none w.rest z)) ∙ entered-ahead fs (w.at + 3)))
      go false e =
          let o = eqb-false w.rest 0 e in
          ahead-some fs w h
          ∙ ap (λ (rs : List Requirement). rs ++ others) (of-more fs w o ∙ ap (map g) (lowest-walked w.rest (count_trailing_zeros 64 w.rest) fits o refl))
          ∙ ap {B = List Requirement} (λ r. r ∷ (map g (inside (without_lowest w.rest) (states_from 0 64)) ++ others)) (sym (here-more o))
          ∙ ap (λ (rs : List Requirement). here fs w ∷ rs) (sym (next-ahead (eqb (without_lowest w.rest) 0) refl))

  pub ahead_behind : {v : Walk} → w.rest < 2 ^ 64 → v ≡ next fs w → ahead fs w ≡ here fs w ∷ ahead fs v
  ahead_behind fits e = ahead_step fits ∙ ap (λ (u : Walk). here fs w ∷ ahead fs u) (sym e)
