-- There are at most 2,016 + 7,936 + 64 = 10,016 requirements.
use mathlib.Core.Path.{◌≡◌, refl, ap}
use mathlib.Core.Bool.{Bool, true, false, ◌&&◌, not, cond}
use mathlib.Core.List.{List, [], ◌∷◌, map}
use Prim.Native.Nat.{ℕ, zero, suc, ◌+◌, ◌-◌, ◌*◌, ◌^◌, ◌≤◌, ◌<◌}
use native.Mathlib.Nat.{suc-mul, mul-suc, mul-le-mul}
use native.Mathlib.Omega.{arith}
use lib.Dec.{leb, ltb}
use lib.ListN.{length, get_or, length-append, length-map, length-take}
use borrow.Author.Tests.{leb-true}
use Rattle.sets.specs.Sets.{has, only, size, total, states_from}
use Rattle.sets.proofs.Every.{and_first}
use Rattle.sets.proofs.Members.{has-lt}
use Rattle.sets.proofs.Size.{size-total}
use Rattle.rules.specs.Limits.{most_states, most_rows, most_dichotomies, most_asked}
use Rattle.rules.specs.Listing.{no_row, rows_of, dichotomies_of}
use Rattle.rules.specs.Requirements.{asks, pairs, outside, stood, group_asks, groups, pairs_and_groups, requirements}
use Rattle.rules.specs.declared.Requirement.{Requirement}
use Rattle.rules.specs.declared.Row.{Row}
use Rattle.rules.specs.declared.Listing.{Listing}
use Rattle.rules.proofs.Asked.{outside-none, outside-not, outside-member, new_group, groups-step}
use Rattle.rules.proofs.Sound.{Sound, rows-length, row_of}

pub states-length : (a n : ℕ) → length (states_from a n) ≡ n
unfolding states_from
states-length a zero = refl
states-length a (suc n) = ap suc (states-length (suc a) n)

-- ---- pairs

-- the pred of suc n under a product
suc-pred : (m n : ℕ) → m * (suc n - 1) ≡ m * n
suc-pred m n = ap (λ (k : ℕ). m * k) (omega arith)

square : (n : ℕ) → n * (n - 1) + n ≡ n * n
square zero = refl
square (suc n) = omega (arith, suc-pred (suc n) n, mul-suc (suc n) n)

pub pairs-length : (l : List ℕ) → length (pairs l) * 2 ≡ length l * (length l - 1)
unfolding pairs
pairs-length [] = refl
pairs-length (i ∷ js) =
    let n = length js in
    let with : ℕ → Requirement = λ j. asks (only i) (only j) in
    omega (arith, length-append (map with js) (pairs js), length-map js with, pairs-length js, square n, suc-pred (suc n) n, suc-mul n n)

-- ---- groups

-- a group asks one requirement for each state outside it
outside-length : (g : ℕ) (f : ℕ → ℕ) (a n : ℕ) → ((j k : ℕ) → a + j ≡ k → has g k ≡ f j) → length (outside g (states_from a n)) + total n f ≡ n
unfolding states_from total
outside-length g f a zero h = ap (λ (l : List ℕ). length l + 0) (outside-none g)
outside-length g f a (suc n) h = go (has g a) refl (h 0 a (omega arith)) (outside-length g (λ s. f (suc s)) (suc a) n (λ j k e. h (suc j) k (omega arith)))
  where
    go : (d : ℕ) → has g a ≡ d → has g a ≡ f 0 → length (outside g (states_from (suc a) n)) + total n (λ s. f (suc s)) ≡ n
        → length (outside g (a ∷ states_from (suc a) n)) + (f 0 + total n (λ s. f (suc s))) ≡ suc n
    go zero e z q = rw (outside-not g a (states_from (suc a) n) e) (omega arith)
    go (suc d) e z q = rw (outside-member g a (states_from (suc a) n) d e) (omega (arith, has-lt g a))

pub group-length : (n g : ℕ) → g < 2 ^ n → length (group_asks n g) + size g ≡ n
unfolding group_asks
group-length n g fits =
    omega (
      arith,
      length-map (outside g (states_from 0 n)) (λ s. asks g (only s)),
      size-total n g fits,
      outside-length g (has g) 0 n (λ j k e. ap (has g) (omega arith)),
    )

-- each row asks at most n - 2
row-length : (n : ℕ) (earlier : List ℕ) (g : ℕ) → g < 2 ^ n → length (cond (new_group n earlier g) (group_asks n g) []) ≤ n - 2
row-length n earlier g fits = go (new_group n earlier g) refl
  where
    go : (b : Bool) → new_group n earlier g ≡ b → length (cond b (group_asks n g) []) ≤ n - 2
    go true e =
        let e₂ = and_first (leb 2 (size g) && ltb (size g) n) (not (stood g earlier)) e in
        omega (arith, group-length n g fits, leb-true 2 (size g) (and_first (leb 2 (size g)) (ltb (size g) n) e₂))
    go false e = omega arith

pub groups-length : (n : ℕ) (earlier : List ℕ) (rows : List Row) → ((k : ℕ) → k < length rows → (get_or rows k no_row).group < 2 ^ n)
    → length (groups n earlier rows) ≤ length rows * (n - 2)
unfolding groups
groups-length n earlier [] h = omega arith
groups-length n earlier (r ∷ rows) h =
    omega (
      arith,
      ap length (groups-step n earlier r rows),
      length-append (cond (new_group n earlier r.group) (group_asks n r.group) []) (groups n (r.group ∷ earlier) rows),
      row-length n earlier r.group (h 0 (omega arith)),
      groups-length n (r.group ∷ earlier) rows (λ k q. h (suc k) (omega arith)),
      suc-mul (length rows) (n - 2),
    )

-- ---- all

module _ (t : Listing) (s : Sound t) where
  few-pairs : length (pairs (states_from 0 t.head.states)) * 2 ≤ most_states * (most_states - 1)
  few-pairs =
      let n : ℕ = t.head.states in
      let few : n ≤ most_states = s.head.few-states in
      let square : length (states_from 0 n) * (length (states_from 0 n) - 1) ≡ n * (n - 1) = ap (λ (k : ℕ). k * (k - 1)) (states-length 0 n) in
      let most : n * (n - 1) ≤ most_states * (most_states - 1) = mul-le-mul {m₂ = most_states - 1} few (omega arith) in
      omega (arith, pairs-length (states_from 0 n))

  few-groups : length (groups t.head.states [] (rows_of t)) ≤ most_rows * (most_states - 2)
  few-groups =
      let n : ℕ = t.head.states in
      let each : (k : ℕ) → k < length (rows_of t) → (get_or (rows_of t) k no_row).group < 2 ^ n = λ k h. (row_of t s k (omega (arith, rows-length t s))).group in
      let few : length (rows_of t) ≤ most_rows = omega (arith, rows-length t s, s.few-rows) in
      let most : length (rows_of t) * (n - 2) ≤ most_rows * (most_states - 2) = mul-le-mul {m₂ = most_states - 2} few (omega (arith, s.head.few-states)) in
      omega (arith, groups-length n [] (rows_of t) each)

  few-dichotomies : length (dichotomies_of t) ≤ most_dichotomies
  few-dichotomies = omega (arith, length-take t.dichotomies t.asked, s.asked)

  pub most-requirements : length (requirements t) ≤ most_asked
  unfolding requirements pairs_and_groups
  most-requirements =
      omega (
        arith,
        length-append (pairs_and_groups t) (dichotomies_of t),
        length-append (pairs (states_from 0 t.head.states)) (groups t.head.states [] (rows_of t)),
        few-pairs,
        few-groups,
        few-dichotomies,
      )
