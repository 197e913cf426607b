-- The choice among the free states alone: those that are not free change nothing, and of two free ones the levels decide.
use Rattle.std.proofs.Common.{◌≡◌, ℕ, zero, suc, ◌-◌, ◌^◌, ◌<◌, ◌≤◌, min, Bool, true, false, cond, ltb, List, get_or, sym, refl, ap, ◌∙◌, subst, ap₂, arith, pow_pos, le-ltb, lt-ltb}
use native.Mathlib.Decide.{dec_lt, ℕ_discrete}
use lib.Bits.{bit_and, and_le_l}
use lib.Count.{count_trailing_zeros}
use Rattle.sets.specs.Sets.{has, flip, everyone, size, without_lowest}
use Rattle.sets.proofs.Members.{has-lt, has-and, has_all, has-high, has-none, has-flip, has-flip-other}
use Rattle.sets.proofs.LowestMember.{lowest-at, lowest-least, without_at, without-lt, without_fewer}
use Rattle.rules.specs.OneBit.{rather}
use Rattle.bit_choice.specs.Pass.{highest}

-- ---- the choice, over states that are not free and over one that is

module _ (free : ℕ) (t : List ℕ) where
  skip-to : (j k : ℕ) → j ≤ k → ((i : ℕ) → j ≤ i → i < k → has free i ≡ 0) → highest free t k ≡ highest free t j
  unfolding highest
  skip-to j zero p h = let e : 0 ≡ j = omega arith in ap (highest free t) e
  skip-to j (suc k) p h = go (dec_lt k j) (λ q. skip-to j k q (λ i l m. h i l (omega arith)))
    where
      go : Dec (k < j) → (j ≤ k → highest free t k ≡ highest free t j) → highest free t (suc k) ≡ highest free t j
      go (yes q) before = let e : suc k ≡ j = omega arith in ap (highest free t) e
      go (no q) before =
          let r : ℕ = highest free t k in
          ap (λ (x : ℕ). cond (rather x (has free r) (ltb (get_or t r 0) (get_or t k 0))) k r) (h k (omega arith) (omega arith)) ∙ before (omega arith)

  none_yet : (k : ℕ) → ((i : ℕ) → i < k → has free i ≡ 0) → highest free t k ≡ 0
  unfolding highest
  none_yet k h = skip-to 0 k (omega arith) (λ i _ q. h i q)

  first-free : (k : ℕ) → ((i : ℕ) → i < k → has free i ≡ 0) → has free k ≡ 1 → highest free t (suc k) ≡ k
  unfolding highest
  first-free zero h e = either (rather (has free 0) (has free 0) (ltb (get_or t 0 0) (get_or t 0 0)))
    where
      either : (b : Bool) → cond {A = ℕ} b 0 0 ≡ 0
      either true = refl
      either false = refl
  first-free (suc k) h e =
      ap (λ (x : ℕ). cond (rather (has free (suc k)) (has free x) (ltb (get_or t x 0) (get_or t (suc k) 0))) (suc k) x) (none_yet (suc k) h)
      ∙ ap₂ (λ (x y : ℕ). cond (rather x y (ltb (get_or t 0 0) (get_or t (suc k) 0))) (suc k) 0) e (h 0 (omega arith))

  more-free : (k r : ℕ) → r ≡ highest free t k → has free k ≡ 1 → has free r ≡ 1
      → highest free t (suc k) ≡ cond (ltb (get_or t r 0) (get_or t k 0)) k r
  unfolding highest
  more-free k r e h g =
      ap (λ (x : ℕ). cond (rather (has free k) (has free x) (ltb (get_or t x 0) (get_or t k 0))) k x) (sym e)
      ∙ ap₂ (λ (x y : ℕ). cond (rather x y (ltb (get_or t r 0) (get_or t k 0))) k r) h g

-- ---- the loop over the free states, the lowest first

-- r is the choice among the states below `to`, and `rest` has the free ones from there on
pub record Ahead (n free : ℕ) (t : List ℕ) (r rest : ℕ) : Type 0 where
  pub to : ℕ
  pub within : to ≤ n
  pub best : r ≡ highest free t to
  pub chosen : has free r ≡ 1
  pub passed : (i : ℕ) → i < to → has rest i ≡ 0
  pub later : (i : ℕ) → to ≤ i → i < n → has rest i ≡ has free i
  pub beyond : (i : ℕ) → n ≤ i → has rest i ≡ 0
  pub fits : rest < 2 ^ 64

module _ (n free : ℕ) (t : List ℕ) where
  module _ (m k m' : ℕ) (fits : m < 2 ^ 64) (some : m ≡ 0 → ⊥) (ek : k ≡ count_trailing_zeros 64 m) (em : m' ≡ without_lowest m)
      (beyond : (i : ℕ) → n ≤ i → has m i ≡ 0) where
    lowest : (k < 64) × (has m k ≡ 1)
    lowest = lowest-at m k fits some ek

    is : m' ≡ flip m k
    is = without_at m k m' some ek em

    below : (i : ℕ) → i < k → has m i ≡ 0
    below i q = lowest-least 64 m i (subst (λ (j : ℕ). i < j) ek q)

    inside : k < n
    inside = go (dec_lt k n)
      where
        go : Dec (k < n) → k < n
        go (yes p) = p
        go (no p) = absurd (omega (arith, lowest.1, beyond k (omega arith)))

    same : (i : ℕ) → (i ≡ k → ⊥) → has m' i ≡ has m i
    same i o = ap (λ (x : ℕ). has x i) is ∙ has-flip-other m k i o

    out : (i : ℕ) → i < suc k → Dec (i ≡ k) → has m' i ≡ 0
    out i p (yes e) = ap (λ (x : ℕ). has x i) is ∙ ap (has (flip m k)) e ∙ has-flip m k ∙ ap (λ (d : ℕ). 1 - d) lowest.1
    out i p (no o) = same i o ∙ below i (omega arith)

    ahead : (r : ℕ) → r ≡ highest free t (suc k) → has free r ≡ 1 → ((i : ℕ) → k ≤ i → i < n → has m i ≡ has free i) → Ahead n free t r m'
    ahead r e f later = record {
      to = suc k;
      within = inside;
      best = e;
      chosen = f;
      passed = λ i p. out i p (ℕ_discrete i k);
      later = λ i p q. same i (λ d. omega arith) ∙ later i (omega arith) q;
      beyond = λ i p. same i (λ d. omega (arith, inside)) ∙ beyond i p;
      fits = without-lt m k m' fits some ek em;
    }

    fewer : size m' < size m
    fewer = without_fewer m k m' fits some ek em

  -- the free states below n
  module _ (e m : ℕ) (ee : e ≡ everyone (min n 64)) (em : m ≡ bit_and free e) (hf : free < 2 ^ 64) where
    digit : (i : ℕ) → has m i ≡ min (has free i) (has (everyone (min n 64)) i)
    digit i = ap (λ (x : ℕ). has x i) (em ∙ ap (bit_and free) ee) ∙ has-and free (everyone (min n 64)) i

    all-beyond : (i : ℕ) → n ≤ i → has m i ≡ 0
    all-beyond i p =
        omega (arith, digit i, has-high (min n 64) (everyone (min n 64)) i (omega (arith, pow_pos (min n 64))) (omega arith))

    all-free : (i : ℕ) → i < n → has m i ≡ has free i
    all-free i p = go (dec_lt i 64)
      where
        go : Dec (i < 64) → has m i ≡ has free i
        go (yes q) = omega (arith, digit i, has_all (min n 64) i (omega arith), has-lt free i)
        go (no q) = omega (arith, digit i, has-high 64 free i hf (omega arith))

    -- none is free
    pub choose-none : m ≡ 0 → 0 ≡ highest free t n
    choose-none z = sym (none_yet free t n (λ i p. sym (all-free i p) ∙ ap (λ (x : ℕ). has x i) z ∙ has-none i))

    pub choose-first : (k m' : ℕ) → (m ≡ 0 → ⊥) → k ≡ count_trailing_zeros 64 m → m' ≡ without_lowest m → Ahead n free t k m'
    choose-first k m' o ek em' =
        let l : m < 2 ^ 64 = omega (arith, and_le_l free e) in
        let h : k < n = inside m k m' l o ek em' all-beyond in
        let f : has free k ≡ 1 = sym (all-free k h) ∙ (lowest m k m' l o ek em' all-beyond).1 in
        ahead m k m' l o ek em' all-beyond k
        (sym (first-free free t k (λ i p. sym (all-free i (omega arith)) ∙ below m k m' l o ek em' all-beyond i p) f))
        f (λ i _ q. all-free i q)

  module _ (r rest k rest' : ℕ) (a : Ahead n free t r rest) (some : rest ≡ 0 → ⊥) (ek : k ≡ count_trailing_zeros 64 rest)
      (er : rest' ≡ without_lowest rest) where
    pub choose-fewer : size rest' < size rest
    choose-fewer = fewer rest k rest' a.fits some ek er a.beyond

    at_least : a.to ≤ k
    at_least = go (dec_lt k a.to)
      where
        go : Dec (k < a.to) → a.to ≤ k
        go (yes p) = absurd (omega (arith, a.passed k p, (lowest rest k rest' a.fits some ek er a.beyond).1))
        go (no p) = omega arith

    reached : highest free t k ≡ r
    reached =
        skip-to free t a.to k at_least
        (λ i p q. sym (a.later i p (omega (arith, inside rest k rest' a.fits some ek er a.beyond)))
        ∙ below rest k rest' a.fits some ek er a.beyond i q)
        ∙ sym a.best

    k-free : has free k ≡ 1
    k-free =
        sym (a.later k at_least (inside rest k rest' a.fits some ek er a.beyond))
        ∙ (lowest rest k rest' a.fits some ek er a.beyond).1

    choose-next : (b : Bool) (r' : ℕ) → b ≡ ltb (get_or t r 0) (get_or t k 0) → r' ≡ cond b k r → Ahead n free t r' rest'
    choose-next b r' eb e =
        ahead rest k rest' a.fits some ek er a.beyond r'
        (e ∙ ap (λ (x : Bool). cond x k r) eb ∙ sym (more-free free t k r (sym reached) k-free a.chosen))
        (ap (has free) e ∙ either b) (λ i p q. a.later i (omega (arith, at_least)) q)
      where
        either : (x : Bool) → has free (cond x k r) ≡ 1
        either true = k-free
        either false = a.chosen

    pub choose-higher : (r' : ℕ) → get_or t r 0 < get_or t k 0 → r' ≡ k → Ahead n free t r' rest'
    choose-higher r' h e = choose-next true r' (sym (lt-ltb (get_or t r 0) (get_or t k 0) h)) e

    pub choose-kept : (r' : ℕ) → get_or t k 0 ≤ get_or t r 0 → r' ≡ r → Ahead n free t r' rest'
    choose-kept r' h e = choose-next false r' (sym (le-ltb (get_or t r 0) (get_or t k 0) h)) e

  pub choose-end : (r rest : ℕ) → Ahead n free t r rest → rest ≡ 0 → r ≡ highest free t n
  choose-end r rest a z =
      a.best ∙ sym (skip-to free t a.to n a.within (λ i p q. sym (a.later i p q) ∙ ap (λ (x : ℕ). has x i) z ∙ has-none i))
