-- A requirement of n states: two blocks of those states that share none. Every requirement of a sound listing is one.
use mathlib.Core.Path.{◌≡◌, refl, sym, ap, ◌∙◌, subst}
use mathlib.Core.Bool.{Bool, true, false, cond}
use mathlib.Core.List.{List, [], ◌∷◌, ◌++◌, map}
use Prim.Native.Nat.{ℕ, zero, suc, ◌+◌, ◌^◌, ◌≤◌, ◌<◌, min}
use native.Mathlib.Decide.{ℕ_discrete}
use native.Mathlib.Omega.{arith}
use lib.Bits.{bit_and}
use lib.ListN.{length, get_or, take}
use lib.Pow.{pow_pos, pow-lt}
use Rattle.sets.specs.Sets.{has, only, states_from}
use Rattle.sets.proofs.Members.{has-lt, has-and, has-none, has_other}
use Rattle.rules.specs.Listing.{no_row, no_requirement, rows_of, dichotomies_of}
use Rattle.rules.specs.Requirements.{asks, pairs, outside, met, group_asks, groups, pairs_and_groups, requirements}
use Rattle.rules.specs.OneBit.{start}
use Rattle.rules.specs.Code.{unmet_by}
use Rattle.rules.specs.declared.Requirement.{Requirement}
use Rattle.rules.specs.declared.Row.{Row}
use Rattle.rules.specs.declared.Listing.{Listing}
use Rattle.rules.proofs.Counts.{Apart}
use Rattle.rules.proofs.Runs.{Fresh, Once, Below}
use Rattle.rules.proofs.Asked.{outside-not, outside-member, new_group, groups-step}
use Rattle.rules.proofs.Unmet.{live_after, unmet_in, live-unmet, left-met, left-unmet}
use Rattle.rules.proofs.SoundLines.{SoundBlocks}
use Rattle.rules.proofs.Sound.{Sound, rows-length, row_of}

pub record Good (n : ℕ) (r : Requirement) : Type 0 where
  pub first : r.first < 2 ^ n
  pub second : r.second < 2 ^ n
  pub apart : Apart r.first r.second

abbrev pub AllGood : ℕ → List Requirement → Type 0
AllGood n [] = Unit {0}
AllGood n (r ∷ rs) = Good n r × AllGood n rs

-- a bit starts as a set of the n states
pub start-lt : (n : ℕ) (rs : List Requirement) → AllGood n rs → start rs < 2 ^ n
start-lt n [] g = pow_pos n
start-lt n (r ∷ rs) g = g.0.second

-- ---- lists of them

good-append : (n : ℕ) (rs qs : List Requirement) → AllGood n rs → AllGood n qs → AllGood n (rs ++ qs)
good-append n [] qs g h = h
good-append n (r ∷ rs) qs g h = (g.0, good-append n rs qs g.1 h)

-- the first places of a table
good-take : (n k : ℕ) (rs : List Requirement) → ((j : ℕ) → j < k → Good n (get_or rs j no_requirement)) → AllGood n (take k rs)
good-take n zero rs h = tt
good-take n (suc k) [] h = tt
good-take n (suc k) (r ∷ rs) h = (h 0 (omega arith), good-take n k rs (λ j q. h (suc j) (omega arith)))

-- what a bit leaves live
pub good-unmet : (n b : ℕ) (rs : List Requirement) → AllGood n rs → AllGood n (unmet_by n b rs)
unfolding unmet_by
good-unmet n b [] g = tt
good-unmet n b (r ∷ rs) g = go (met n r b) refl (good-unmet n b rs g.1)
  where
    go : (t : Bool) → met n r b ≡ t → AllGood n (unmet_by n b rs) → AllGood n (unmet_by n b (r ∷ rs))
    go true e h = rw (left-met n b r rs e) h
    go false e h = rw (left-unmet n b r rs e) (g.0, h)

-- what several bits leave live
good-live : (n : ℕ) (bits : List ℕ) (rs : List Requirement) → AllGood n rs → AllGood n (live_after n bits rs)
unfolding live_after
good-live n [] rs g = g
good-live n (b ∷ bs) rs g = good-live n bs (unmet_by n b rs) (good-unmet n b rs g)

pub good_left : (n : ℕ) (bits : List ℕ) (rs : List Requirement) → AllGood n rs → AllGood n (unmet_in n bits rs)
good_left n bits rs g = subst (AllGood n) (live-unmet n bits rs) (good-live n bits rs g)

-- ---- blocks that are apart

-- a state outside a block
pub apart-only : (m s : ℕ) → has m s ≡ 0 → Apart m (only s)
apart-only m s e t = at (ℕ_discrete t s)
  where
    at : Dec (t ≡ s) → has m t + has (only s) t ≤ 1
    at (yes d) = omega (arith, ap (has m) d, has-lt (only s) t)
    at (no d) = omega (arith, has_other s t d, has-lt m t)

pub apart-and : (f g : ℕ) → bit_and f g ≡ 0 → Apart f g
apart-and f g e t =
    let a : min (has f t) (has g t) ≡ 0 = sym (has-and f g t) ∙ ap (λ (m : ℕ). has m t) e ∙ has-none t in
    omega (arith, has-lt f t, has-lt g t)

-- ---- states

states-fresh : (s a n : ℕ) → s < a → Fresh s (states_from a n)
unfolding states_from
states-fresh s a zero h = tt
states-fresh s a (suc n) h = ((λ e. omega arith), states-fresh s (suc a) n (omega arith))

states-once : (a n : ℕ) → Once (states_from a n)
unfolding states_from
states-once a zero = tt
states-once a (suc n) = (states-fresh a (suc a) n (omega arith), states-once (suc a) n)

pub states-below : (a n m : ℕ) → a + n ≤ m → Below m (states_from a n)
unfolding states_from
states-below a zero m h = tt
states-below a (suc n) m h = (omega arith, states-below (suc a) n m (omega arith))

-- ---- pairs: two states

pair-good : (n i : ℕ) (js : List ℕ) → i < n → Fresh i js → Below n js → AllGood n (map (λ j. asks (only i) (only j)) js)
pair-good n i [] p f l = tt
pair-good n i (j ∷ js) p f l =
    (record { first = pow-lt p; second = pow-lt l.0; apart = apart-only (only i) j (has_other i j f.0) }, pair-good n i js p f.1 l.1)

pairs-good : (n : ℕ) (ss : List ℕ) → Once ss → Below n ss → AllGood n (pairs ss)
unfolding pairs
pairs-good n [] o l = tt
pairs-good n (i ∷ js) o l =
    good-append n (map (λ j. asks (only i) (only j)) js) (pairs js) (pair-good n i js l.0 o.0 l.1) (pairs-good n js o.1 l.1)

-- ---- groups: a group and a state outside it

outside-good : (n g : ℕ) (ss : List ℕ) → g < 2 ^ n → Below n ss → AllGood n (map (λ s. asks g (only s)) (outside g ss))
unfolding outside
outside-good n g [] p l = tt
outside-good n g (s ∷ ss) p l = go (has g s) refl (outside-good n g ss p l.1)
  where
    go : (d : ℕ) → has g s ≡ d → AllGood n (map (λ s. asks g (only s)) (outside g ss)) → AllGood n (map (λ s. asks g (only s)) (outside g (s ∷ ss)))
    go zero e h = rw (outside-not g s ss e) (record { first = p; second = pow-lt l.0; apart = apart-only g s e }, h)
    go (suc d) e h = rw (outside-member g s ss d e) h

group-good : (n g : ℕ) → g < 2 ^ n → AllGood n (group_asks n g)
unfolding group_asks
group-good n g p = outside-good n g (states_from 0 n) p (states-below 0 n n (omega arith))

groups-good : (n : ℕ) (earlier : List ℕ) (rows : List Row) → ((k : ℕ) → k < length rows → (get_or rows k no_row).group < 2 ^ n) → AllGood n (groups n earlier rows)
unfolding groups
groups-good n earlier [] h = tt
groups-good n earlier (r ∷ rows) h =
    rw (groups-step n earlier r rows)
    (good-append n (cond (new_group n earlier r.group) (group_asks n r.group) []) (groups n (r.group ∷ earlier) rows)
    (asked (new_group n earlier r.group))
    (groups-good n (r.group ∷ earlier) rows (λ k q. h (suc k) (omega arith))))
  where
    asked : (t : Bool) → AllGood n (cond t (group_asks n r.group) [])
    asked true = group-good n r.group (h 0 (omega arith))
    asked false = tt

-- ---- all

blocks-good : (n : ℕ) (r : Requirement) → SoundBlocks n r → Good n r
blocks-good n r s = record { first = s.first; second = s.second; apart = apart-and r.first r.second s.apart }

pub requirements-good : (t : Listing) → Sound t → AllGood t.head.states (requirements t)
unfolding requirements pairs_and_groups
requirements-good t s =
    let n : ℕ = t.head.states in
    let ps = pairs-good n (states_from 0 n) (states-once 0 n) (states-below 0 n n (omega arith)) in
    let gs = groups-good n [] (rows_of t) (λ k h. (row_of t s k (omega (arith, rows-length t s))).group) in
    let ds = good-take n t.dichotomies t.asked (λ j h. blocks-good n _ (s.dichotomy j h)) in
    good-append n (pairs_and_groups t) (dichotomies_of t) (good-append n (pairs (states_from 0 n)) (groups n [] (rows_of t)) ps gs) ds
