-- The families drawn from a fair listing have its requirements, in 01's order.
use mathlib.Core.Path.{◌≡◌, refl, sym, ap, ap₂, ◌∙◌}
use mathlib.Core.Bool.{Bool, true, false, ◌&&◌, ◌||◌, not, cond}
use mathlib.Core.List.{List, [], ◌∷◌, ◌++◌, append-nil, append_assoc}
use Prim.Native.Nat.{ℕ, zero, suc, ◌-◌, ◌^◌, ◌≤◌, ◌<◌, min}
use native.Mathlib.Omega.{arith}
use lib.Dec.{leb, ltb, eqb}
use lib.ListN.{length, get_or}
use borrow.Author.Tests.{eqb-true, ltb-true, leb-true, ne_eqb}
use Rattle.sets.specs.Sets.{has, only, size, total, everyone, states_from}
use Rattle.sets.proofs.Every.{and_first, and_second}
use Rattle.sets.proofs.Members.{has-lt, has_all, has-none}
use Rattle.sets.proofs.Size.{size-total, size-only}
use Rattle.rules.specs.Limits.{most_states}
use Rattle.rules.specs.Listing.{no_row, no_requirement, rows_of, dichotomies_of}
use Rattle.rules.specs.Requirements.{pairs, stood, group_asks, groups, pairs_and_groups, requirements}
use Rattle.rules.specs.declared.Row.{Row}
use Rattle.rules.specs.declared.Requirement.{Requirement}
use Rattle.rules.specs.declared.Listing.{Listing}
use Rattle.rules.proofs.Asked.{groups-step}
use Rattle.rules.proofs.Good.{apart-and}
use Rattle.rules.proofs.SoundLines.{SoundBlocks}
use Rattle.code_fair.specs.Fair.{fair}
use Rattle.code_fair.proofs.Limits.{fair-grants}
use Rattle.families.specs.Families.{without, requirements_in}
use Rattle.families.proofs.Parts.{has_rest}
use Rattle.families.proofs.Drawn.{group-drawn, dichotomy-drawn}
use Rattle.families.proofs.Words.{Threes, threes-append, in-append}
use Rattle.code_drawing.specs.Drawing.{family, stands_in, with_group, with_groups, dichotomy_words, pair_words, pairs_of, group_families, families_of, first_families, all_families}
use Rattle.code_drawing.proofs.Groups.{asking, with_none, with-stood, with-new}
use Rattle.code_drawing.proofs.Pairs.{pairs-threes, pairs-drawn}

-- ---- a group that asks leaves a state outside

total-ones : (n : ℕ) (f : ℕ → ℕ) → ((s : ℕ) → s < n → f s ≡ 1) → total n f ≡ n
unfolding total
total-ones zero f h = refl
total-ones (suc n) f h = omega (arith, h 0 (omega arith), total-ones n (λ s. f (suc s)) (λ s q. h (suc s) (omega arith)))

module _ (n g : ℕ) (fits : n ≤ 64) (small : g < 2 ^ n) (asks : asking n g ≡ true) where
  some-outside : without (everyone n) g ≡ 0 → ⊥
  some-outside z = omega (arith, ltb-true (size g) n (and_second (leb 2 (size g)) (ltb (size g) n) asks), size-total n g small, total-ones n (has g) member)
    where
      member : (s : ℕ) → s < n → has g s ≡ 1
      member s h =
          let r : has (without (everyone n) g) s ≡ 0 = ap (λ (m : ℕ). has m s) z ∙ has-none s in
          let a : has (everyone n) s ≡ 1 = has_all n s h in
          omega (arith, has_rest (everyone n) g s, has-lt g s)

  group-family : requirements_in (family g 0 (without (everyone (min n 64)) g)) ≡ group_asks n g
  unfolding requirements_in
  group-family =
      let e : min n 64 ≡ n = omega arith in
      ap (λ (m : ℕ). requirements_in (family g 0 (without (everyone m) g))) e ∙ append-nil _ ∙ group-drawn n g fits some-outside

-- ---- a group stands among the families exactly when it has stood in a row, if it asks

stands-append : {fs : List ℕ} → Threes fs → (h : ℕ) (gs : List ℕ) → stands_in h (fs ++ gs) ≡ (stands_in h fs || stands_in h gs)
unfolding stands_in
stands-append Threes.none h gs = refl
stands-append (Threes.more {a} {b} {c} {fs} t) h gs = ap (λ (x : Bool). eqb h a || x) (stands-append t h gs) ∙ or_assoc (eqb h a) (stands_in h fs) (stands_in h gs)
  where
    or_assoc : (x y z : Bool) → (x || (y || z)) ≡ ((x || y) || z)
    or_assoc true y z = refl
    or_assoc false y z = refl

or_swap : (x y : Bool) → (x || (y || false)) ≡ (y || x)
or_swap true true = refl
or_swap true false = refl
or_swap false true = refl
or_swap false false = refl

abbrev Same : ℕ → List ℕ → List ℕ → Type 0
Same n fs earlier = (h : ℕ) → asking n h ≡ true → stands_in h fs ≡ stood h earlier

-- one row more: another group is there as before, and this one is there from now on, if it asks
module _ (n g : ℕ) (fs earlier : List ℕ) (t : Threes fs) (same : Same n fs earlier) where
  now-stood : (h : ℕ) {x y : Bool} → eqb h g ≡ x → stood h earlier ≡ y → (x || y) ≡ stood h (g ∷ earlier)
  unfolding stood
  now-stood h e f = sym (ap₂ ◌||◌ e f)

  same_none : asking n g ≡ false → Same n fs (g ∷ earlier)
  same_none p h a = go (eqb h g) refl
    where
      go : (x : Bool) → eqb h g ≡ x → stands_in h fs ≡ stood h (g ∷ earlier)
      go true e = absurd (let z : asking n g ≡ true = ap (asking n) (sym (eqb-true h g e)) ∙ a in let y : ◌≡◌ {A = ℕ} 0 1 = cc in omega arith)
      go false e = same h a ∙ now-stood h e refl

  same-stood : asking n g ≡ true → stood g earlier ≡ true → Same n fs (g ∷ earlier)
  same-stood p s h a = go (eqb h g) refl
    where
      go : (x : Bool) → eqb h g ≡ x → stands_in h fs ≡ stood h (g ∷ earlier)
      go true e = ap (λ (k : ℕ). stands_in k fs) (eqb-true h g e) ∙ same g p ∙ s ∙ now-stood h e refl
      go false e = same h a ∙ now-stood h e refl

  same_new : (o : ℕ) → Same n (fs ++ family g 0 o) (g ∷ earlier)
  unfolding stands_in
  same_new o h a = stands-append t h (family g 0 o) ∙ or_swap (stands_in h fs) (eqb h g) ∙ now-stood h refl (sym (same h a))

-- ---- the rows

module _ (n : ℕ) (fits : n ≤ 64) where
  abbrev Small : List Row → Type 0
  Small rs = (k : ℕ) → k < length rs → (get_or rs k no_row).group < 2 ^ n

  abbrev Rest : List Row → Type 0
  Rest rs = (fs earlier : List ℕ) → Threes fs → Same n fs earlier → Small rs → requirements_in (with_groups n fs rs) ≡ requirements_in fs ++ groups n earlier rs

  groups-drawn : (rs : List Row) → Rest rs
  unfolding with_groups groups
  groups-drawn [] fs earlier t same small = sym (append-nil (requirements_in fs))
  groups-drawn (r ∷ rs) fs earlier t same small = go (groups-drawn rs) (asking n r.group) (stood r.group earlier) refl refl
    where
      g : ℕ
      g = r.group

      later : Small rs
      later k h = small (suc k) (omega arith)

      step : (x y : Bool) → asking n g ≡ x → stood g earlier ≡ y → cond (x && not y) (group_asks n g) [] ++ groups n (g ∷ earlier) rs ≡ groups n earlier (r ∷ rs)
      step x y e f = sym (groups-step n earlier r rs ∙ ap₂ (λ (a b : Bool). cond (a && not b) (group_asks n g) [] ++ groups n (g ∷ earlier) rs) e f)

      go : Rest rs → (x y : Bool) → asking n g ≡ x → stood g earlier ≡ y → requirements_in (with_groups n (with_group n fs g) rs) ≡ requirements_in fs ++ groups n earlier (r ∷ rs)
      go rest false y e f =
          ap (λ (l : List ℕ). requirements_in (with_groups n l rs)) (with_none n fs g e)
          ∙ rest fs (g ∷ earlier) t (same_none n g fs earlier t same e) later
          ∙ ap (λ (l : List Requirement). requirements_in fs ++ l) (step false y e f)
      go rest true true e f =
          ap (λ (l : List ℕ). requirements_in (with_groups n l rs)) (with-stood n fs g e (same g e ∙ f))
          ∙ rest fs (g ∷ earlier) t (same-stood n g fs earlier t same e f) later
          ∙ ap (λ (l : List Requirement). requirements_in fs ++ l) (step true true e f)
      go rest true false e f =
          let o : ℕ = without (everyone (min n 64)) g in
          ap (λ (l : List ℕ). requirements_in (with_groups n l rs)) (with-new n fs g e (same g e ∙ f))
          ∙ rest (fs ++ family g 0 o) (g ∷ earlier) (threes-append t (Threes.more Threes.none)) (same_new n g fs earlier t same o) later
          ∙ ap (λ (l : List Requirement). l ++ groups n (g ∷ earlier) rs) (in-append t (family g 0 o) ∙ ap (λ (l : List Requirement). requirements_in fs ++ l) (group-family n g fits (small 0 (omega arith)) e))
          ∙ append_assoc (requirements_in fs) (group_asks n g) (groups n (g ∷ earlier) rs)
          ∙ ap (λ (l : List Requirement). requirements_in fs ++ l) (step true false e f)

  groups-threes : (rs : List Row) (fs : List ℕ) → Threes fs → Threes (with_groups n fs rs)
  unfolding with_groups
  groups-threes [] fs t = t
  groups-threes (r ∷ rs) fs t = groups-threes rs (with_group n fs r.group) (go (asking n r.group) (stands_in r.group fs) refl refl)
    where
      g : ℕ
      g = r.group

      go : (x y : Bool) → asking n g ≡ x → stands_in g fs ≡ y → Threes (with_group n fs g)
      go false y e f = rw (with_none n fs g e) t
      go true true e f = rw (with-stood n fs g e f) t
      go true false e f = rw (with-new n fs g e f) (threes-append t (Threes.more Threes.none))

-- no pair's family has a group for its members in common
pairs-alone : (n m i k : ℕ) → Same n (pair_words m i k) []
unfolding pair_words stands_in stood
pairs-alone n m i zero h a = refl
pairs-alone n m i (suc k) h a = ap₂ ◌||◌ (ne_eqb h (only i) other) (pairs-alone n m (suc i) k h a)
  where
    other : h ≡ only i → ⊥
    other e =
        let two : 2 ≤ size h = leb-true 2 (size h) (and_first (leb 2 (size h)) (ltb (size h) n) a) in
        let one : size (only i) ≡ 1 = size-only i in
        omega (arith, ap size e)

-- ---- the dichotomies

dichotomies-drawn : (n : ℕ) (ds : List Requirement) → ((k : ℕ) → k < length ds → SoundBlocks n (get_or ds k no_requirement)) → requirements_in (dichotomy_words ds) ≡ ds
unfolding dichotomy_words requirements_in
dichotomies-drawn n [] h = refl
dichotomies-drawn n (d ∷ ds) h =
    let s = h 0 (omega arith) in
    ap₂ (λ (x y : List Requirement). x ++ y) (dichotomy-drawn n d.first d.second s.first s.second (apart-and d.first d.second s.apart)) (dichotomies-drawn n ds (λ k q. h (suc k) (omega arith)))

-- ---- all

module _ (t : Listing) (e : fair t ≡ true) where
  few : t.head.states ≤ 64
  few = omega (arith, (fair-grants t e).limits.few-states)

  -- the groups
  pub groups-are : requirements_in (group_families t) ≡ groups t.head.states [] (rows_of t)
  unfolding group_families requirements_in stands_in stood
  groups-are = groups-drawn t.head.states few (rows_of t) [] [] Threes.none (λ h a. refl) (fair-grants t e).group

  -- the pairs and the groups
  pub first-are : requirements_in (first_families t) ≡ pairs_and_groups t
  unfolding first_families pairs_and_groups
  first-are =
      let n : ℕ = t.head.states in
      let w = (fair-grants t e).limits in
      let m : min n most_states ≡ n = omega (arith, w.few-states) in
      ap (λ (k : ℕ). requirements_in (with_groups n (pairs_of k) (rows_of t))) m
      ∙ groups-drawn n few (rows_of t) (pairs_of n) [] (pairs-threes n 0 (n - 1)) (pairs-alone n n 0 (n - 1)) (fair-grants t e).group
      ∙ ap (λ (l : List Requirement). l ++ groups n [] (rows_of t)) (pairs-drawn n w.some-states few)

  first-threes : Threes (first_families t)
  unfolding first_families
  first-threes = groups-threes t.head.states few (rows_of t) _ (pairs-threes (min t.head.states most_states) 0 (min t.head.states most_states - 1))

  group-threes : Threes (group_families t)
  unfolding group_families
  group-threes = groups-threes t.head.states few (rows_of t) [] Threes.none

  -- all that the listing asks
  pub all_are : requirements_in (all_families t) ≡ requirements t
  unfolding all_families requirements
  all_are = in-append first-threes (dichotomy_words (dichotomies_of t)) ∙ ap₂ (λ (x y : List Requirement). x ++ y) first-are (dichotomies-drawn t.head.states (dichotomies_of t) (fair-grants t e).dichotomy)

  -- the same without the families of the pairs
  pub families-are : pairs (states_from 0 t.head.states) ++ requirements_in (families_of t) ≡ requirements t
  unfolding families_of requirements pairs_and_groups
  families-are =
      let n : ℕ = t.head.states in
      ap (λ (l : List Requirement). pairs (states_from 0 n) ++ l)
      (in-append group-threes (dichotomy_words (dichotomies_of t)) ∙ ap₂ (λ (x y : List Requirement). x ++ y) groups-are (dichotomies-drawn n (dichotomies_of t) (fair-grants t e).dichotomy))
      ∙ sym (append_assoc (pairs (states_from 0 n)) (groups n [] (rows_of t)) (dichotomies_of t))
