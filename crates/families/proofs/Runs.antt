-- The members of a set among states in a row: all of them, or none, run by run.
use mathlib.Core.Path.{◌≡◌, refl, ap, ◌∙◌}
use mathlib.Core.List.{List, [], ◌∷◌, ◌++◌}
use Prim.Native.Nat.{ℕ, zero, suc, ◌+◌, ◌≤◌, ◌<◌}
use native.Mathlib.Omega.{arith}
use Rattle.sets.specs.Sets.{has, states_from}
use Rattle.sets.proofs.Members.{has-lt}
use Rattle.families.specs.Families.{inside}
use Rattle.families.proofs.Inside.{inside-in, inside-out}

pub states-append : (a j k : ℕ) → states_from a (j + k) ≡ states_from a j ++ states_from (a + j) k
unfolding states_from
states-append a zero k =
    let e : 0 + k ≡ k = omega arith in
    let f : a ≡ a + 0 = omega arith in
    ap (states_from a) e ∙ ap (λ (b : ℕ). states_from b k) f
states-append a (suc j) k =
    let e : suc j + k ≡ suc (j + k) = omega arith in
    let f : suc a + j ≡ a + suc j = omega arith in
    ap (states_from a) e ∙ ap (λ (l : List ℕ). a ∷ l) (states-append (suc a) j k ∙ ap (λ (b : ℕ). states_from (suc a) j ++ states_from b k) f)

pub inside-append : (m : ℕ) (xs ys : List ℕ) → inside m (xs ++ ys) ≡ inside m xs ++ inside m ys
unfolding inside
inside-append m [] ys = refl
inside-append m (x ∷ xs) ys = go (has m x) refl (inside-append m xs ys)
  where
    go : (d : ℕ) → has m x ≡ d → inside m (xs ++ ys) ≡ inside m xs ++ inside m ys → inside m (x ∷ (xs ++ ys)) ≡ inside m (x ∷ xs) ++ inside m ys
    go zero e r = rw (inside-out m x (xs ++ ys) e, inside-out m x xs e) r
    go (suc d) e r =
        let i : has m x ≡ 1 = omega (arith, has-lt m x) in
        rw (inside-in m x (xs ++ ys) i, inside-in m x xs i) (ap (λ (l : List ℕ). x ∷ l) r)

pub all-inside : (m a k : ℕ) → ((t : ℕ) → a ≤ t → t < a + k → has m t ≡ 1) → inside m (states_from a k) ≡ states_from a k
unfolding inside states_from
all-inside m a zero h = refl
all-inside m a (suc k) h =
    inside-in m a (states_from (suc a) k) (h a (omega arith) (omega arith))
    ∙ ap (λ (l : List ℕ). a ∷ l) (all-inside m (suc a) k (λ t p q. h t (omega arith) (omega arith)))

pub none_inside : (m a k : ℕ) → ((t : ℕ) → a ≤ t → t < a + k → has m t ≡ 0) → inside m (states_from a k) ≡ []
unfolding inside states_from
none_inside m a zero h = refl
none_inside m a (suc k) h =
    inside-out m a (states_from (suc a) k) (h a (omega arith) (omega arith)) ∙ none_inside m (suc a) k (λ t p q. h t (omega arith) (omega arith))
