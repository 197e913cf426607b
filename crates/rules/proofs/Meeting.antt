-- Meeting a requirement: 001's words, and the counts: it is met where one of them is 0.
use mathlib.Core.Path.{◌≡◌, refl, sym, ap, ap₂, ◌∙◌}
use mathlib.Core.Bool.{Bool, true, false, ◌&&◌, ◌||◌}
use mathlib.Core.Logic.{◌⊎◌, inl, inr, ⊎_elim}
use Prim.Native.Nat.{ℕ, zero, suc, ◌+◌, ◌-◌, ◌*◌, ◌<◌}
use native.Mathlib.Nat.{zero-mul, one-mul, mul-zero}
use native.Mathlib.Omega.{arith}
use lib.Dec.{eqb}
use borrow.Author.Tests.{eq-eqb, ne_eqb}
use Rattle.sets.specs.Sets.{has}
use Rattle.sets.proofs.Members.{has-lt}
use Rattle.sets.proofs.Totals.{total-none, none-total}
use Rattle.sets.proofs.Every.{and_first, and_second, and_both}
use Rattle.rules.specs.Requirements.{wholly, met}
use Rattle.rules.specs.Looks.{must_change}
use Rattle.rules.specs.declared.Requirement.{Requirement}
use Rattle.rules.proofs.Or.{or-first, or-second, or_cases}
use Rattle.rules.proofs.Blocks.{wholly-on, on-wholly}
use Rattle.rules.proofs.Counts.{cost}

-- of the states below n, those in z have value 0 and those in o value 1
pub record Split (n z o b : ℕ) : Type 0 where
  pub zeros : (s : ℕ) → s < n → has z s ≡ 1 → has b s ≡ 0
  pub ones : (s : ℕ) → s < n → has o s ≡ 1 → has b s ≡ 1

module _ (n z o b : ℕ) where
  pub split-wholly : Split n z o b → (wholly n b 0 z && wholly n b 1 o) ≡ true
  split-wholly h = and_both (wholly n b 0 z) (wholly n b 1 o) (on-wholly n b 0 z h.zeros) (on-wholly n b 1 o h.ones)

  pub wholly-split : (wholly n b 0 z && wholly n b 1 o) ≡ true → Split n z o b
  wholly-split e = record {
    zeros = wholly-on n b 0 z (and_first (wholly n b 0 z) (wholly n b 1 o) e);
    ones = wholly-on n b 1 o (and_second (wholly n b 0 z) (wholly n b 1 o) e);
  }

  -- nothing must change
  pub split-none : Split n z o b → must_change n z o b ≡ 0
  unfolding must_change
  split-none h = none-total n (cost z o b) (λ s p. at s p (has z s) (has o s) refl refl)
    where
      at : (s : ℕ) → s < n → (x y : ℕ) → has z s ≡ x → has o s ≡ y → cost z o b s ≡ 0
      at s p x y e f = ap₂ (λ (c d : ℕ). c * has b s + d * (1 - has b s)) e f ∙ go x y e f
        where
          go : (x y : ℕ) → has z s ≡ x → has o s ≡ y → x * has b s + y * (1 - has b s) ≡ 0
          go zero zero e f = ap₂ (λ (c d : ℕ). c + d) (zero-mul (has b s)) (zero-mul (1 - has b s))
          go zero (suc y) e f =
              let v : has b s ≡ 1 = h.ones s p (omega (arith, has-lt o s)) in
              let u : 1 - has b s ≡ 0 = omega arith in
              ap₂ (λ (c d : ℕ). c + suc y * d) (zero-mul (has b s)) u ∙ ap (λ (d : ℕ). 0 + d) (mul-zero (suc y))
          go (suc x) zero e f =
              let v : has b s ≡ 0 = h.zeros s p (omega (arith, has-lt z s)) in
              ap₂ (λ (c d : ℕ). suc x * c + d) v (zero-mul (1 - has b s)) ∙ ap (λ (d : ℕ). d + 0) (mul-zero (suc x))
          go (suc x) (suc y) e f =
              let v : has b s ≡ 0 = h.zeros s p (omega (arith, has-lt z s)) in
              let u : has b s ≡ 1 = h.ones s p (omega (arith, has-lt o s)) in
              absurd (omega arith)

  pub none-split : must_change n z o b ≡ 0 → Split n z o b
  unfolding must_change
  none-split e = record { zeros = λ s p m. zero-at s p m (total-none n (cost z o b) e s p); ones = λ s p m. one_at s p m (total-none n (cost z o b) e s p) }
    where
      zero-at : (s : ℕ) → s < n → has z s ≡ 1 → cost z o b s ≡ 0 → has b s ≡ 0
      zero-at s p m c =
          let d : has z s * has b s ≡ has b s = ap (λ (x : ℕ). x * has b s) m ∙ one-mul (has b s) in
          omega arith

      one_at : (s : ℕ) → s < n → has o s ≡ 1 → cost z o b s ≡ 0 → has b s ≡ 1
      one_at s p m c =
          let d : has o s * (1 - has b s) ≡ 1 - has b s = ap (λ (x : ℕ). x * (1 - has b s)) m ∙ one-mul (1 - has b s) in
          omega (arith, has-lt b s)

-- 001's words: there is a value that the bit has on the whole first block while it has the other on the whole second
pub met-means : (n : ℕ) (r : Requirement) (b : ℕ) → met n r b ≡ true → Split n r.first r.second b ⊎ Split n r.second r.first b
unfolding met
met-means n r b e =
    ⊎_elim (λ x. inl (wholly-split n r.first r.second b x))
    (λ x. inr (wholly-split n r.second r.first b (and_both (wholly n b 0 r.second) (wholly n b 1 r.first) (and_second (wholly n b 1 r.first) (wholly n b 0 r.second) x) (and_first (wholly n b 1 r.first) (wholly n b 0 r.second) x))))
    (or_cases (wholly n b 0 r.first && wholly n b 1 r.second) (wholly n b 1 r.first && wholly n b 0 r.second) e)

pub means-met : (n : ℕ) (r : Requirement) (b : ℕ) → Split n r.first r.second b ⊎ Split n r.second r.first b → met n r b ≡ true
unfolding met
means-met n r b (inl h) = ap (λ (t : Bool). t || (wholly n b 1 r.first && wholly n b 0 r.second)) (split-wholly n r.first r.second b h)
means-met n r b (inr h) =
    let e : (wholly n b 0 r.second && wholly n b 1 r.first) ≡ true = split-wholly n r.second r.first b h in
    let f : (wholly n b 1 r.first && wholly n b 0 r.second) ≡ true =
    and_both (wholly n b 1 r.first) (wholly n b 0 r.second) (and_second (wholly n b 0 r.second) (wholly n b 1 r.first) e) (and_first (wholly n b 0 r.second) (wholly n b 1 r.first) e) in
    or-second (wholly n b 0 r.first && wholly n b 1 r.second) (wholly n b 1 r.first && wholly n b 0 r.second) f

-- the number of members that must change one way round, and the other
abbrev pub one_way : ℕ → Requirement → ℕ → ℕ
one_way n r b = must_change n r.first r.second b

abbrev pub other_way : ℕ → Requirement → ℕ → ℕ
other_way n r b = must_change n r.second r.first b

-- met: nothing must change, one way round or the other
pub met-counts : (n : ℕ) (r : Requirement) (b : ℕ) → met n r b ≡ (eqb (one_way n r b) 0 || eqb (other_way n r b) 0)
met-counts n r b = go (met n r b) refl
  where
    is-met : Split n r.first r.second b ⊎ Split n r.second r.first b → (eqb (one_way n r b) 0 || eqb (other_way n r b) 0) ≡ true
    is-met (inl h) = or-first (eqb (one_way n r b) 0) (eqb (other_way n r b) 0) (eq-eqb (one_way n r b) 0 (split-none n r.first r.second b h))
    is-met (inr h) = or-second (eqb (one_way n r b) 0) (eqb (other_way n r b) 0) (eq-eqb (other_way n r b) 0 (split-none n r.second r.first b h))

    never : met n r b ≡ false → (x : Split n r.first r.second b ⊎ Split n r.second r.first b) → ⊥
    never e x = let y : met n r b ≡ true = means-met n r b x in let z : ◌≡◌ {A = ℕ} 0 1 = cc in omega arith

    go : (t : Bool) → met n r b ≡ t → met n r b ≡ (eqb (one_way n r b) 0 || eqb (other_way n r b) 0)
    go true e = e ∙ sym (is-met (met-means n r b e))
    go false e =
        e
        ∙ sym (ap₂ ◌||◌
        (ne_eqb (one_way n r b) 0 (λ h. never e (inl (none-split n r.first r.second b h))))
        (ne_eqb (other_way n r b) 0 (λ h. never e (inr (none-split n r.second r.first b h)))))
