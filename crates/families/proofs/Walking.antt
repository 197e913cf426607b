-- A set of 64 states walked from member to member: the lowest, and those behind it; and as many as the set has.
use mathlib.Core.Path.{◌≡◌, refl, sym, ap, ap₂, ◌∙◌}
use mathlib.Core.List.{List, [], ◌∷◌, ◌++◌}
use Prim.Native.Nat.{ℕ, zero, suc, ◌+◌, ◌-◌, ◌^◌, ◌≤◌, ◌<◌}
use native.Mathlib.Omega.{arith}
use lib.Count.{count_trailing_zeros}
use lib.ListN.{length, get_or}
use Rattle.sets.specs.Sets.{has, flip, size, total, states_from, without_lowest}
use Rattle.sets.proofs.Members.{has-lt, has-none, has-flip, has-flip-other}
use Rattle.sets.proofs.Totals.{total-same}
use Rattle.sets.proofs.Size.{size-total}
use Rattle.sets.proofs.LowestMember.{lowest-at, lowest-least, without-some}
use Rattle.families.specs.Families.{inside}
use Rattle.families.proofs.Inside.{inside-in, inside-out, inside-none}
use Rattle.families.proofs.Runs.{states-append, inside-append, none_inside}

-- two sets that are alike from a on
alike-inside : (m l a k : ℕ) → ((t : ℕ) → a ≤ t → has m t ≡ has l t) → inside m (states_from a k) ≡ inside l (states_from a k)
unfolding inside states_from
alike-inside m l a zero h = refl
alike-inside m l a (suc k) h = go (has m a) refl (alike-inside m l (suc a) k (λ t p. h t (omega arith)))
  where
    go : (d : ℕ) → has m a ≡ d → inside m (states_from (suc a) k) ≡ inside l (states_from (suc a) k) → inside m (a ∷ states_from (suc a) k) ≡ inside l (a ∷ states_from (suc a) k)
    go zero e r = inside-out m a (states_from (suc a) k) e ∙ r ∙ sym (inside-out l a (states_from (suc a) k) (sym (h a (omega arith)) ∙ e))
    go (suc d) e r =
        let i : has m a ≡ 1 = omega (arith, has-lt m a) in
        inside-in m a (states_from (suc a) k) i ∙ ap (λ (x : List ℕ). a ∷ x) r ∙ sym (inside-in l a (states_from (suc a) k) (sym (h a (omega arith)) ∙ i))

pub none-walked : (m : ℕ) → m ≡ 0 → inside m (states_from 0 64) ≡ []
none-walked m e = inside-none m (λ t. ap (λ (k : ℕ). has k t) e ∙ has-none t) (states_from 0 64)

module _ (m s : ℕ) (fits : m < 2 ^ 64) (some : m ≡ 0 → ⊥) (low : s ≡ count_trailing_zeros 64 m) where
  -- a set that has none below s
  from_lowest : (l : ℕ) → ((t : ℕ) → t < s → has l t ≡ 0) → inside l (states_from 0 64) ≡ inside l (s ∷ states_from (suc s) (63 - s))
  unfolding states_from
  from_lowest l h =
      let p = (lowest-at m s fits some low).0 in
      let z : 64 ≡ s + suc (63 - s) = omega arith in
      let a : 0 + s ≡ s = omega arith in
      ap (λ (k : ℕ). inside l (states_from 0 k)) z
      ∙ ap (inside l) (states-append 0 s (suc (63 - s)))
      ∙ inside-append l (states_from 0 s) (states_from (0 + s) (suc (63 - s)))
      ∙ ap₂ (λ (x y : List ℕ). x ++ y) (none_inside l 0 s (λ t _ q. h t (omega arith))) (ap (λ (k : ℕ). inside l (states_from k (suc (63 - s)))) a)

  pub lowest-walked : inside m (states_from 0 64) ≡ s ∷ inside (without_lowest m) (states_from 0 64)
  lowest-walked =
      let ss : List ℕ = states_from (suc s) (63 - s) in
      let e : without_lowest m ≡ flip m s = without-some m some ∙ ap (flip m) (sym low) in
      let least : (t : ℕ) → t < s → has m t ≡ 0 = λ t q. lowest-least 64 m t (omega arith) in
      let out : has (flip m s) s ≡ 0 = omega (arith, has-flip m s, (lowest-at m s fits some low).1) in
      from_lowest m least
      ∙ inside-in m s ss (lowest-at m s fits some low).1
      ∙ ap (λ (x : List ℕ). s ∷ x) (
      alike-inside m (flip m s) (suc s) (63 - s) (λ t p. sym (has-flip-other m s t (λ q. omega arith)))
      ∙ sym (inside-out (flip m s) s ss out)
      ∙ sym (from_lowest (flip m s) (λ t q. has-flip-other m s t (λ z. omega arith) ∙ least t q))
      ∙ ap (λ (k : ℕ). inside k (states_from 0 64)) (sym e)
      )

-- ---- as many as the set has

pub walked-total : (m a k : ℕ) → length (inside m (states_from a k)) ≡ total k (λ i. has m (a + i))
unfolding inside states_from total
walked-total m a zero = refl
walked-total m a (suc k) = go (has m a) refl (walked-total m (suc a) k ∙ total-same k (λ i. has m (suc a + i)) (λ i. has m (a + suc i)) (λ i _. ap (has m) (next i)))
  where
    next : (i : ℕ) → suc a + i ≡ a + suc i
    next i = omega arith

    none : a ≡ a + 0
    none = omega arith

    go : (d : ℕ) → has m a ≡ d → length (inside m (states_from (suc a) k)) ≡ total k (λ i. has m (a + suc i)) → length (inside m (a ∷ states_from (suc a) k)) ≡ has m (a + 0) + total k (λ i. has m (a + suc i))
    go zero e r = ap length (inside-out m a (states_from (suc a) k) e) ∙ omega (arith, ap (has m) none)
    go (suc d) e r = ap length (inside-in m a (states_from (suc a) k) (omega (arith, has-lt m a))) ∙ omega (arith, ap (has m) none, has-lt m a)

pub walked-length : (m : ℕ) → m < 2 ^ 64 → length (inside m (states_from 0 64)) ≡ size m
walked-length m fits = walked-total m 0 64 ∙ total-same 64 (λ i. has m (0 + i)) (has m) (λ i _. ap (has m) (none i)) ∙ sym (size-total 64 m fits)
  where
    none : (i : ℕ) → 0 + i ≡ i
    none i = omega arith

-- ---- each is below 64

inside-small : (m a k j d : ℕ) → j < length (inside m (states_from a k)) → get_or (inside m (states_from a k)) j d < a + k
unfolding inside states_from
inside-small m a zero j d h = absurd (omega arith)
inside-small m a (suc k) j d h = go (has m a) refl j h (λ i q. inside-small m (suc a) k i d q)
  where
    go : (x : ℕ) → has m a ≡ x → (j : ℕ) → j < length (inside m (a ∷ states_from (suc a) k))
        → ((i : ℕ) → i < length (inside m (states_from (suc a) k)) → get_or (inside m (states_from (suc a) k)) i d < suc a + k) → get_or (inside m (a ∷ states_from (suc a) k)) j d < a + suc k
    go zero e j q rest =
        let l = inside-out m a (states_from (suc a) k) e in
        rw l (let r = rest j (omega (arith, ap length l)) in omega arith)
    go (suc x) e zero q rest = let l = inside-in m a (states_from (suc a) k) (omega (arith, has-lt m a)) in rw l (omega arith)
    go (suc x) e (suc j) q rest =
        let l = inside-in m a (states_from (suc a) k) (omega (arith, has-lt m a)) in
        rw l (let r = rest j (omega (arith, ap length l)) in omega arith)

pub walked-small : (m j : ℕ) → j < length (inside m (states_from 0 64)) → get_or (inside m (states_from 0 64)) j 64 < 64
walked-small m j h = let r = inside-small m 0 64 j 64 h in omega arith
