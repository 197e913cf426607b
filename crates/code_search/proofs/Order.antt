-- The order in which a code's columns take off is nothing to what is left: so a search whose columns never fall finds the first of all codes.
use mathlib.Core.Path.{◌≡◌, refl, sym, ap, ◌∙◌}
use mathlib.Core.Bool.{Bool, true, false, cond}
use mathlib.Core.List.{List, [], ◌∷◌, Memᴰ}
use Prim.Native.Nat.{ℕ, zero, suc, ◌+◌, ◌-◌, ◌%◌, ◌≤◌, ◌<◌, min}
use native.Mathlib.Decide.{ℕ_discrete, dec_lt}
use native.Mathlib.Omega.{arith}
use lib.Dec.{eqb}
use lib.ListN.{length, get_or}
use Rattle.sets.specs.Sets.{has}
use Rattle.sets.proofs.Members.{has-lt, same-mask, below_power}
use Rattle.rules.specs.Least.{codes_of, First, first, none, first_with}
use Rattle.rules.proofs.Codes.{code-listed, listed-code, none_has, has-none, leading, tried, first-tried}
use Rattle.families.specs.Families.{without}
use Rattle.families.proofs.Parts.{rest_lt, has_rest}
use Rattle.code_search.specs.Search.{behind, takes_all, searched}

-- ---- two members' sets, taken off in either order

pub either_order : (m x y : ℕ) → without (without m x) y ≡ without (without m y) x
either_order m x y =
    same-mask m (without (without m x) y) (without (without m y) x) (rest_lt m (without m x) y (rest_lt m m x (below_power m))) (rest_lt m (without m y) x (rest_lt m m y (below_power m))) at
  where
    digits : (a b c : ℕ) → a < 2 → b < 2 → c < 2 → ((a + min a b) % 2 + min ((a + min a b) % 2) c) % 2 ≡ ((a + min a c) % 2 + min ((a + min a c) % 2) b) % 2
    digits zero zero zero p q r = refl
    digits zero zero (suc zero) p q r = refl
    digits zero zero (suc (suc c)) p q r = absurd (omega arith)
    digits zero (suc zero) zero p q r = refl
    digits zero (suc zero) (suc zero) p q r = refl
    digits zero (suc zero) (suc (suc c)) p q r = absurd (omega arith)
    digits zero (suc (suc b)) c p q r = absurd (omega arith)
    digits (suc zero) zero zero p q r = refl
    digits (suc zero) zero (suc zero) p q r = refl
    digits (suc zero) zero (suc (suc c)) p q r = absurd (omega arith)
    digits (suc zero) (suc zero) zero p q r = refl
    digits (suc zero) (suc zero) (suc zero) p q r = refl
    digits (suc zero) (suc zero) (suc (suc c)) p q r = absurd (omega arith)
    digits (suc zero) (suc (suc b)) c p q r = absurd (omega arith)
    digits (suc (suc a)) b c p q r = absurd (omega arith)

    twice : (a b s : ℕ) → has (without (without m a) b) s ≡ ((has m s + min (has m s) (has a s)) % 2 + min ((has m s + min (has m s) (has a s)) % 2) (has b s)) % 2
    twice a b s = has_rest (without m a) b s ∙ ap (λ (d : ℕ). (d + min d (has b s)) % 2) (has_rest m a s)

    at : (s : ℕ) → s < m → has (without (without m x) y) s ≡ has (without (without m y) x) s
    at s l = twice x y s ∙ digits (has m s) (has x s) (has y s) (has-lt m s) (has-lt x s) (has-lt y s) ∙ sym (twice y x s)

-- ---- columns tried

-- those that lead to no code may be passed over
tried-past : (f : ℕ → First) (j a k : ℕ) → ((u : ℕ) → a ≤ u → u < a + j → f u ≡ none) → tried f a (j + k) ≡ tried f (a + j) k
unfolding tried leading
tried-past f zero a k h = let e : 0 + k ≡ k = omega arith in let q : a ≡ a + 0 = omega arith in ap (tried f a) e ∙ ap (λ (b : ℕ). tried f b k) q
tried-past f (suc j) a k h =
    let e : suc j + k ≡ suc (j + k) = omega arith in
    let q : suc a + j ≡ a + suc j = omega arith in
    ap (tried f a) e
    ∙ ap (λ (g : First). leading a g (tried f (suc a) (j + k))) (h a (omega arith) (omega arith))
    ∙ tried-past f j (suc a) k (λ u l r. h u (omega arith) (omega arith))
    ∙ ap (λ (b : ℕ). tried f b k) q

-- two ways to lead to a code that agree at each column that is reached
tried_same : (f g : ℕ → First) (k a : ℕ) → ((u : ℕ) → a ≤ u → u < a + k → ((v : ℕ) → a ≤ v → v < u → g v ≡ none) → f u ≡ g u) → tried f a k ≡ tried g a k
unfolding tried leading
tried_same f g zero a h = refl
tried_same f g (suc k) a h = go (g a) refl (tried_same f g k (suc a))
  where
    later : g a ≡ none → (u : ℕ) → suc a ≤ u → u < suc a + k → ((v : ℕ) → suc a ≤ v → v < u → g v ≡ none) → f u ≡ g u
    later e u l r q = h u (omega arith) (omega arith) (λ v m n. at v m n (ℕ_discrete v a))
      where
        at : (v : ℕ) → a ≤ v → v < u → Dec (v ≡ a) → g v ≡ none
        at v m n (yes s) = ap g s ∙ e
        at v m n (no o) = q v (omega arith) n

    go : (x : First) → g a ≡ x → (((u : ℕ) → suc a ≤ u → u < suc a + k → ((v : ℕ) → suc a ≤ v → v < u → g v ≡ none) → f u ≡ g u) → tried f (suc a) k ≡ tried g (suc a) k)
        → leading a (f a) (tried f (suc a) k) ≡ leading a (g a) (tried g (suc a) k)
    go (first code) e r =
        let s : f a ≡ g a = h a (omega arith) (omega arith) (λ v m n. absurd (omega arith)) in
        ap (λ (x : First). leading a x (tried f (suc a) k)) (s ∙ e) ∙ sym (ap (λ (x : First). leading a x (tried g (suc a) k)) e)
    go none e r =
        let s : f a ≡ g a = h a (omega arith) (omega arith) (λ v m n. absurd (omega arith)) in
        ap (λ (x : First). leading a x (tried f (suc a) k)) (s ∙ e) ∙ r (later e) ∙ sym (ap (λ (x : First). leading a x (tried g (suc a) k)) e)

-- ---- the search

module _ (met : List ℕ) where
  -- the first of all codes of w columns that takes off all that is left
  abbrev of_all : ℕ → ℕ → First
  of_all w left = first_with (takes_all met left) (codes_of (length met) w)

  -- no code that begins below `from` does
  abbrev Clear : ℕ → ℕ → ℕ → Type 0
  Clear zero from left = Unit {0}
  Clear (suc w) from left = (u : ℕ) → u < from → of_all w (behind met left u) ≡ none

  swapped : (left u v : ℕ) (code : List ℕ) → takes_all met (behind met (behind met left v) u) code ≡ takes_all met (behind met (behind met left u) v) code
  swapped left u v code = ap (λ (m : ℕ). takes_all met m code) (either_order left (get_or met v 0) (get_or met u 0))

  -- what no code behind a lower column u does, none behind v that begins with u does
  clear : (w v left : ℕ) → v < length met → ((u : ℕ) → u < v → of_all w (behind met left u) ≡ none) → Clear w v (behind met left v)
  unfolding takes_all
  clear zero v left l h = tt
  clear (suc w) v left l h = λ u r. has-none (takes_all met (behind met (behind met left v) u)) (codes_of (length met) w) (each u r)
    where
      each : (u : ℕ) → u < v → (code : List ℕ) → Memᴰ code (codes_of (length met) w) → takes_all met (behind met (behind met left v) u) code ≡ false
      each u r code m =
          let k = listed-code (length met) w code m in
          swapped left u v code
          ∙ none_has (takes_all met (behind met left u)) (codes_of (length met) (suc w)) (h u r) (v ∷ code) (code-listed (length met) (suc w) (v ∷ code) (ap suc k.0, (l, k.1)))

  all-tried : (w left : ℕ) → of_all (suc w) left ≡ tried (λ v. of_all w (behind met left v)) 0 (length met)
  unfolding takes_all
  all-tried w left = first-tried (takes_all met left) (length met) w

  found_from : (w from left : ℕ) → from ≤ length met → Clear w from left → searched met w from left ≡ of_all w left
  unfolding searched takes_all codes_of first_with
  found_from zero from left l h = go (eqb left 0)
    where
      go : (b : Bool) → cond b (first []) none ≡ elim b [ true ↦ first [] | false ↦ none ]
      go true = refl
      go false = refl
  found_from (suc w) from left l h =
      let c : ℕ = length met in
      let all : from + (c - from) ≡ c = omega arith in
      let start : 0 + from ≡ from = omega arith in
      tried_same (λ v. searched met w v (behind met left v)) (λ v. of_all w (behind met left v)) (c - from) from
      (λ u a b q. found_from w u (behind met left u) (omega arith) (clear w u left (omega arith) (lower u q)))
      ∙ sym
      (all-tried w left
      ∙ ap (tried (λ v. of_all w (behind met left v)) 0) (sym all)
      ∙ tried-past (λ v. of_all w (behind met left v)) from 0 (c - from) (λ u a b. h u (omega arith))
      ∙ ap (λ (b : ℕ). tried (λ v. of_all w (behind met left v)) b (c - from)) start)
    where
      lower : (u : ℕ) → ((v : ℕ) → from ≤ v → v < u → of_all w (behind met left v) ≡ none) → (v : ℕ) → v < u → of_all w (behind met left v) ≡ none
      lower u q v b = at (dec_lt v from)
        where
          at : Dec (v < from) → of_all w (behind met left v) ≡ none
          at (yes r) = h v r
          at (no o) = q v (omega arith) b

  -- from the first column on, it is the first of all codes
  pub search-first : (w left : ℕ) → searched met w 0 left ≡ first_with (takes_all met left) (codes_of (length met) w)
  search-first zero left = found_from zero 0 left (omega arith) tt
  search-first (suc w) left = found_from (suc w) 0 left (omega arith) (λ u h. absurd (omega arith))
