-- Which requirements there are: one for any two states, and one for any row's group of 2 to n - 1 states and any state outside it.
use mathlib.Core.Path.{◌≡◌, refl, ap}
use mathlib.Core.Logic.{◌⊎◌, inl, inr, ⊎_elim}
use mathlib.Core.Bool.{Bool, true, false, ◌&&◌, not, cond, false≢true}
use mathlib.Core.List.{List, [], ◌∷◌, ◌++◌, map, Memᴰ}
use Prim.Native.Nat.{ℕ, zero, suc, ◌+◌, ◌≤◌, ◌<◌}
use native.Mathlib.Decide.{ℕ_discrete}
use native.Mathlib.Omega.{arith}
use lib.Dec.{leb, ltb, eqb}
use borrow.Author.Tests.{eqb-true, le-leb, lt-ltb}
use Rattle.sets.specs.Sets.{has, only, size, states_from}
use Rattle.sets.proofs.Every.{and_both}
use Rattle.rules.specs.Requirements.{asks, pairs, outside, stood, group_asks, groups}
use Rattle.rules.specs.declared.Requirement.{Requirement}
use Rattle.rules.specs.declared.Row.{Row}
use Rattle.rules.proofs.Or.{or_cases}
use mathlib.Core.List.Memᴰ

-- ---- states

pub state-listed : (a n s : ℕ) → a ≤ s → s < a + n → Memᴰ s (states_from a n)
unfolding states_from
state-listed a zero s h q = absurd (omega arith)
state-listed a (suc n) s h q = go (ℕ_discrete s a) (λ o. state-listed (suc a) n s (omega arith) (omega arith))
  where
    go : Dec (s ≡ a) → ((s ≡ a → ⊥) → Memᴰ s (states_from (suc a) n)) → Memᴰ s (a ∷ states_from (suc a) n)
    go (yes e) f = Memᴰ.head e
    go (no o) f = Memᴰ.tail (f o)

pub state-below : (a n s : ℕ) → Memᴰ s (states_from a n) → (a ≤ s) × (s < a + n)
unfolding states_from
state-below a zero s m = absurd (Memᴰ.not-nil m)
state-below a (suc n) s m = ⊎_elim (λ e. (omega arith, omega arith)) (λ q. let o = state-below (suc a) n s q in (omega (arith, o.0), omega (arith, o.1))) (Memᴰ.cases_cons m)

-- ---- pairs

pair-from : (a n i j : ℕ) → a ≤ i → i < j → j < a + n → Memᴰ (asks (only i) (only j)) (pairs (states_from a n))
unfolding pairs states_from
pair-from a zero i j h p q = absurd (omega arith)
pair-from a (suc n) i j h p q = go (ℕ_discrete i a) (λ o. pair-from (suc a) n i j (omega arith) p (omega arith))
  where
    ss : List ℕ
    ss = states_from (suc a) n

    go : Dec (i ≡ a) → ((i ≡ a → ⊥) → Memᴰ (asks (only i) (only j)) (pairs ss))
        → Memᴰ (asks (only i) (only j)) (map (λ j. asks (only a) (only j)) ss ++ pairs ss)
    go (yes e) f =
        Memᴰ.append_left (pairs ss)
        (Memᴰ.cast (ap (λ (i : ℕ). asks (only i) (only j)) e) (Memᴰ.map (λ j. asks (only a) (only j)) (state-listed (suc a) n j (omega arith) (omega arith))))
    go (no o) f = Memᴰ.append_right (map (λ j. asks (only a) (only j)) ss) (f o)

pub pair-asked : (n i j : ℕ) → i < j → j < n → Memᴰ (asks (only i) (only j)) (pairs (states_from 0 n))
pair-asked n i j h q = pair-from 0 n i j (omega arith) h (omega arith)

-- ---- groups

pub outside-none : (g : ℕ) → outside g [] ≡ []
unfolding outside
outside-none g = refl

module _ (g s : ℕ) (ss : List ℕ) where
  pub outside-not : has g s ≡ 0 → outside g (s ∷ ss) ≡ s ∷ outside g ss
  unfolding outside
  outside-not e = rw (e, outside)

  pub outside-member : (d : ℕ) → has g s ≡ suc d → outside g (s ∷ ss) ≡ outside g ss
  unfolding outside
  outside-member d e = rw (e, outside)

outside-listed : (g : ℕ) (ss : List ℕ) (s : ℕ) → has g s ≡ 0 → Memᴰ s ss → Memᴰ s (outside g ss)
outside-listed g [] s e m = absurd (Memᴰ.not-nil m)
outside-listed g (t ∷ ss) s e m = go (has g t) refl (Memᴰ.cases_cons m) (outside-listed g ss s e)
  where
    go : (d : ℕ) → has g t ≡ d → (s ≡ t) ⊎ Memᴰ s ss → (Memᴰ s ss → Memᴰ s (outside g ss)) → Memᴰ s (outside g (t ∷ ss))
    go zero q (inl p) f = rw (outside-not g t ss q) (Memᴰ.head p)
    go zero q (inr o) f = rw (outside-not g t ss q) (Memᴰ.tail (f o))
    go (suc d) q (inl p) f = absurd (omega (arith, ap (has g) p))
    go (suc d) q (inr o) f = rw (outside-member g t ss d q) (f o)

pub group-asks : (n g s : ℕ) → s < n → has g s ≡ 0 → Memᴰ (asks g (only s)) (group_asks n g)
unfolding group_asks
group-asks n g s h e = Memᴰ.map (λ s. asks g (only s)) (outside-listed g (states_from 0 n) s e (state-listed 0 n s (omega arith) (omega arith)))

-- a group of 2 to n - 1 states that hasn't stood in an earlier row
abbrev pub new_group : ℕ → List ℕ → ℕ → Bool
new_group n earlier g = leb 2 (size g) && ltb (size g) n && not (stood g earlier)

pub groups-step : (n : ℕ) (earlier : List ℕ) (r : Row) (rows : List Row)
    → groups n earlier (r ∷ rows) ≡ cond (new_group n earlier r.group) (group_asks n r.group) [] ++ groups n (r.group ∷ earlier) rows
unfolding groups
groups-step n earlier r rows = refl

stood-cases : (g h : ℕ) (hs : List ℕ) → stood g (h ∷ hs) ≡ true → (eqb g h ≡ true) ⊎ (stood g hs ≡ true)
unfolding stood
stood-cases g h hs e = or_cases (eqb g h) (stood g hs) e

module _ (n g : ℕ) (two : 2 ≤ size g) (some : size g < n) (x : Requirement) (asked : Memᴰ x (group_asks n g)) where
  -- in the first row
  here : (earlier : List ℕ) (r : Row) (rows : List Row) → g ≡ r.group → (stood g earlier ≡ true) ⊎ Memᴰ x (groups n earlier (r ∷ rows))
  here earlier r rows e = go (stood g earlier) refl
    where
      go : (t : Bool) → stood g earlier ≡ t → (stood g earlier ≡ true) ⊎ Memᴰ x (groups n earlier (r ∷ rows))
      go true q = inl q
      go false q =
          let new : new_group n earlier g ≡ true = and_both _ _ (and_both _ _ (le-leb 2 (size g) two) (lt-ltb (size g) n some)) (ap not q) in
          inr (rw (groups-step n earlier r rows, ← e, new) (Memᴰ.append_left _ asked))

  -- in some row
  somewhere : (earlier : List ℕ) (rows : List Row) → Memᴰ g (map (λ r. r.group) rows) → (stood g earlier ≡ true) ⊎ Memᴰ x (groups n earlier rows)
  somewhere earlier [] m = absurd (Memᴰ.not-nil m)
  somewhere earlier (r ∷ rows) m = ⊎_elim (here earlier r rows) (λ m. later (somewhere (r.group ∷ earlier) rows m)) (Memᴰ.cases_cons m)
    where
      later : (stood g (r.group ∷ earlier) ≡ true) ⊎ Memᴰ x (groups n (r.group ∷ earlier) rows)
          → (stood g earlier ≡ true) ⊎ Memᴰ x (groups n earlier (r ∷ rows))
      later (inl q) = ⊎_elim (λ e. here earlier r rows (eqb-true g r.group e)) inl (stood-cases g r.group earlier q)
      later (inr m) = inr (rw (groups-step n earlier r rows) (Memᴰ.append_right (cond (new_group n earlier r.group) (group_asks n r.group) []) m))

-- what a group asks stands where the group first stood
pub group-asked : (n : ℕ) (rows : List Row) (r : Row) → Memᴰ r rows → 2 ≤ size r.group → size r.group < n
    → (x : Requirement) → Memᴰ x (group_asks n r.group) → Memᴰ x (groups n [] rows)
unfolding stood
group-asked n rows r m p q x a = ⊎_elim (λ e. absurd (false≢true e)) (λ h. h) (somewhere n r.group p q x a [] rows (Memᴰ.map (λ r. r.group) m))
