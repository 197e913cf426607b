-- The moves of a pass (01, "One bit"): the chosen state is free and has the greatest gain, and a pass moves every state once.
use mathlib.Core.Path.{◌≡◌, refl, sym, ap, ◌∙◌, subst}
use mathlib.Core.Bool.{Bool, true, false, cond}
use mathlib.Core.Logic.{◌⊎◌, inl, inr, ⊎_elim}
use mathlib.Core.List.{List, [], ◌∷◌}
use Prim.Native.Nat.{ℕ, zero, suc, ◌+◌, ◌≤◌, ◌<◌}
use native.Mathlib.Nat.{le_refl}
use native.Mathlib.Omega.{arith}
use native.Mathlib.Decide.{ℕ_discrete}
use lib.Dec.{ltb}
use lib.ListN.{length}
use borrow.Author.Tests.{ltb-true, ltb-false}
use Rattle.sets.specs.Sets.{has, flip, everyone, total}
use Rattle.sets.proofs.Members.{has-lt, has_all, has-flip, has-flip-other}
use Rattle.sets.proofs.Totals.{total-change}
use Rattle.rules.specs.Requirements.{met_count}
use Rattle.rules.specs.OneBit.{before, choice, moves_from, pass_moves}
use Rattle.rules.specs.declared.Requirement.{Requirement}
use Rattle.rules.proofs.Runs.{Fresh, Once, Below}

-- t is free, and no free state below k has a greater gain
pub record Best (n : ℕ) (rs : List Requirement) (b free k t : ℕ) : Type 0 where
  pub below : t < k
  pub free_one : has free t ≡ 1
  pub greatest : (u : ℕ) → u < k → has free u ≡ 1 → met_count n rs (flip b u) ≤ met_count n rs (flip b t)
  -- and of those with this gain it has the lowest number
  pub lowest : (u : ℕ) → u < t → has free u ≡ 1 → met_count n rs (flip b u) < met_count n rs (flip b t)

-- nobody below k is free
abbrev NoneFree : ℕ → ℕ → Type 0
NoneFree free k = (u : ℕ) → u < k → has free u ≡ 0

module _ (n : ℕ) (rs : List Requirement) (b free k t : ℕ) where
  -- a bound on those below k, and on k
  up_to : (c : ℕ) → ((u : ℕ) → u < k → has free u ≡ 1 → met_count n rs (flip b u) ≤ c) → (has free k ≡ 1 → met_count n rs (flip b k) ≤ c)
      → (u : ℕ) → u < suc k → has free u ≡ 1 → met_count n rs (flip b u) ≤ c
  up_to c f g u p q = at (ℕ_discrete u k)
    where
      at : Dec (u ≡ k) → met_count n rs (flip b u) ≤ c
      at (yes d) = subst (λ (v : ℕ). met_count n rs (flip b v) ≤ c) (sym d) (g (subst (λ (v : ℕ). has free v ≡ 1) d q))
      at (no d) = f u (omega arith) q

  -- k is the first that is free
  best-alone : has free k ≡ 1 → NoneFree free k → Best n rs b free (suc k) k
  best-alone f z = record {
    below = omega arith;
    free_one = f;
    greatest = up_to (met_count n rs (flip b k)) (λ u p q. absurd (omega (arith, z u p))) (λ _. le_refl (met_count n rs (flip b k)));
    lowest = λ u p q. absurd (omega (arith, z u p));
  }

  -- k has a greater gain than the best so far
  best_takes : has free k ≡ 1 → Best n rs b free k t → met_count n rs (flip b t) < met_count n rs (flip b k) → Best n rs b free (suc k) k
  best_takes f m g = record {
    below = omega arith;
    free_one = f;
    greatest = up_to (met_count n rs (flip b k)) (λ u p q. (let w = m.greatest u p q in omega arith)) (λ _. le_refl (met_count n rs (flip b k)));
    lowest = λ u p q. (let w = m.greatest u p q in omega arith);
  }

  -- k is not free, or has no greater gain
  best_keeps : Best n rs b free k t → (has free k ≡ 1 → met_count n rs (flip b k) ≤ met_count n rs (flip b t)) → Best n rs b free (suc k) t
  best_keeps m g = record {
    below = (let w = m.below in omega arith);
    free_one = m.free_one;
    greatest = up_to (met_count n rs (flip b t)) m.greatest g;
    lowest = m.lowest;
  }

  none_more : has free k ≡ 0 → NoneFree free k → NoneFree free (suc k)
  none_more f z u p = at (ℕ_discrete u k)
    where
      at : Dec (u ≡ k) → has free u ≡ 0
      at (yes d) = subst (λ (v : ℕ). has free v ≡ 0) (sym d) f
      at (no d) = z u (omega arith)

  -- the test `before`, case by case
  before-0 : has free k ≡ 0 → before n rs b free k t ≡ false
  unfolding before
  before-0 e = rw e

  before-1 : has free k ≡ 1 → has free t ≡ 0 → before n rs b free k t ≡ true
  unfolding before
  before-1 e f = rw (e, f)

  before-2 : has free k ≡ 1 → has free t ≡ 1 → before n rs b free k t ≡ ltb (met_count n rs (flip b t)) (met_count n rs (flip b k))
  unfolding before
  before-2 e f = rw (e, f)

  -- where nobody is free the choice is 0, which is not free either
  best-step : ((has free t ≡ 0) × NoneFree free k) ⊎ Best n rs b free k t
      → ((has free (cond (before n rs b free k t) k t) ≡ 0) × NoneFree free (suc k)) ⊎ Best n rs b free (suc k) (cond (before n rs b free k t) k t)
  best-step (inl h) = go (has free k) refl
    where
      go : (x : ℕ) → has free k ≡ x → ((has free (cond (before n rs b free k t) k t) ≡ 0) × NoneFree free (suc k)) ⊎ Best n rs b free (suc k) (cond (before n rs b free k t) k t)
      go zero e = rw (before-0 e) (inl (h.0, none_more e h.1))
      go (suc x) e = let f : has free k ≡ 1 = omega (arith, has-lt free k) in rw (before-1 f h.0) (inr (best-alone f h.1))
  best-step (inr m) = go (has free k) (ltb (met_count n rs (flip b t)) (met_count n rs (flip b k))) refl refl
    where
      go : (x : ℕ) (g : Bool) → has free k ≡ x → ltb (met_count n rs (flip b t)) (met_count n rs (flip b k)) ≡ g
          → ((has free (cond (before n rs b free k t) k t) ≡ 0) × NoneFree free (suc k)) ⊎ Best n rs b free (suc k) (cond (before n rs b free k t) k t)
      go zero g e d = rw (before-0 e) (inr (best_keeps m (λ q. absurd (omega arith))))
      go (suc x) true e d =
          let f : has free k ≡ 1 = omega (arith, has-lt free k) in
          rw (before-2 f m.free_one, d) (inr (best_takes f m (ltb-true _ _ d)))
      go (suc x) false e d =
          let f : has free k ≡ 1 = omega (arith, has-lt free k) in
          rw (before-2 f m.free_one, d) (inr (best_keeps m (λ _. ltb-false _ _ d)))

either_way : (t : Bool) (x : ℕ) → cond t x x ≡ x
either_way true x = refl
either_way false x = refl

-- the choice among the states below k
choice-best : (n : ℕ) (rs : List Requirement) (b free k : ℕ)
    → ((has free (choice n rs b free (suc k)) ≡ 0) × NoneFree free (suc k)) ⊎ Best n rs b free (suc k) (choice n rs b free (suc k))
unfolding choice
choice-best n rs b free zero = rw (either_way (before n rs b free 0 0) 0) (go (has free 0) refl)
  where
    go : (x : ℕ) → has free 0 ≡ x → ((has free 0 ≡ 0) × NoneFree free 1) ⊎ Best n rs b free 1 0
    go zero e = inl (e, none_more n rs b free 0 0 e (λ u p. absurd (omega arith)))
    go (suc x) e = inr (best-alone n rs b free 0 0 (omega (arith, has-lt free 0)) (λ u p. absurd (omega arith)))
choice-best n rs b free (suc k) = best-step n rs b free (suc k) (choice n rs b free (suc k)) (choice-best n rs b free k)

-- where some state is free, the choice is a free state with the greatest gain, the lowest of them
pub chosen : (n : ℕ) (rs : List Requirement) (b free k u : ℕ) → u < k → has free u ≡ 1 → Best n rs b free k (choice n rs b free k)
chosen n rs b free zero u p q = absurd (omega arith)
chosen n rs b free (suc k) u p q = ⊎_elim (λ h. absurd (omega (arith, h.1 u p))) (λ m. m) (choice-best n rs b free k)

-- ---- every state once

-- each of the run is free
abbrev AllFree : ℕ → List ℕ → Type 0
AllFree free [] = Unit {0}
AllFree free (s ∷ ss) = (has free s ≡ 1) × AllFree free ss

-- a state that is not free stands in no run of free ones, and may be freed
fresh-free : (free s : ℕ) (ss : List ℕ) → has free s ≡ 1 → AllFree (flip free s) ss → Fresh s ss
fresh-free free s [] e h = tt
fresh-free free s (t ∷ ts) e h =
    ((λ d. (let z : has (flip free s) s ≡ 1 = subst (λ (v : ℕ). has (flip free s) v ≡ 1) d h.0 in omega (arith, has-flip free s))), fresh-free free s ts e h.1)

free-again : (free s : ℕ) (ss : List ℕ) → Fresh s ss → AllFree (flip free s) ss → AllFree free ss
free-again free s [] f h = tt
free-again free s (t ∷ ts) f h = (sym (has-flip-other free s t f.0) ∙ h.0, free-again free s ts f.1 h.1)

-- a sum of digits that is not 0 has one that is 1
some_one : (n m : ℕ) (f : ℕ → ℕ) → total n f ≡ suc m → (u : ℕ) × (u < n) × (0 < f u)
unfolding total
some_one zero m f e = absurd (omega arith)
some_one (suc n) m f e = go (f 0) refl (λ h. some_one n m (λ s. f (suc s)) h)
  where
    go : (x : ℕ) → f 0 ≡ x → (total n (λ s. f (suc s)) ≡ suc m → (u : ℕ) × (u < n) × (0 < f (suc u))) → (u : ℕ) × (u < suc n) × (0 < f u)
    go zero z later = let r = later (omega arith) in (suc r.0, (let w = r.1 in omega arith), r.2)
    go (suc x) z later = (0, omega arith, omega arith)

-- one move of a pass that has k + 1 states free: the state, and that k are free after it
move-free : (n : ℕ) (rs : List Requirement) (b free k : ℕ) → total n (has free) ≡ suc k
    → Best n rs b free n (choice n rs b free n) × (total n (has (flip free (choice n rs b free n))) ≡ k)
move-free n rs b free k e =
    let u = some_one n k (has free) e in
    let m = chosen n rs b free n u.0 u.1 (let w = u.2 in omega (arith, has-lt free u.0)) in
    let s : ℕ = choice n rs b free n in
    let c : total n (has (flip free s)) + has free s ≡ total n (has free) + has (flip free s) s =
    total-change n s (has (flip free s)) (has free) m.below (λ t _ d. has-flip-other free s t d) in
    (m, (let f = m.free_one in omega (arith, has-flip free s)))

-- k more moves where k states are free: each state that moves is free, none moves twice, and there are k
pub record Fair (n free k : ℕ) (ss : List ℕ) : Type 0 where
  pub free-ones : AllFree free ss
  pub once : Once ss
  pub below : Below n ss
  pub many : length ss ≡ k

moves-fair : (n : ℕ) (rs : List Requirement) (k b free : ℕ) → total n (has free) ≡ k → Fair n free k (moves_from n rs k b free)
unfolding moves_from
moves-fair n rs zero b free e = record { free-ones = tt; once = tt; below = tt; many = refl }
moves-fair n rs (suc k) b free e =
    let m = move-free n rs b free k e in
    let s : ℕ = choice n rs b free n in
    let r = moves-fair n rs k (flip b s) (flip free s) m.1 in
    let f : Fresh s (moves_from n rs k (flip b s) (flip free s)) = fresh-free free s (moves_from n rs k (flip b s) (flip free s)) m.0.free_one r.free-ones in
    record {
      free-ones = (m.0.free_one, free-again free s (moves_from n rs k (flip b s) (flip free s)) f r.free-ones);
      once = (f, r.once);
      below = (m.0.below, r.below);
      many = ap suc r.many;
    }

total-ones : (n : ℕ) (f : ℕ → ℕ) → ((s : ℕ) → s < n → f s ≡ 1) → total n f ≡ n
unfolding total
total-ones zero f h = refl
total-ones (suc n) f h = let e = total-ones n (λ s. f (suc s)) (λ s p. h (suc s) (omega arith)) in omega (arith, h 0 (omega arith))

-- a pass moves n states, each below n, none twice
pub pass-fair : (n : ℕ) (rs : List Requirement) (b : ℕ) → Fair n (everyone n) n (pass_moves n rs b)
unfolding pass_moves
pass-fair n rs b = moves-fair n rs n b (everyone n) (total-ones n (has (everyone n)) (has_all n))
