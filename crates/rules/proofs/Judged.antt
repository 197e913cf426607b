-- The judgement of a requirement against a code is the lowest bit that meets it, or that none does; and a code meets what one of its bits meets.
use Rattle.std.specs.Prelude.{Option, Some, None}
use mathlib.Core.Path.{◌≡◌, refl, sym, ap, ◌∙◌}
use mathlib.Core.Logic.{◌⊎◌, inl, inr, ⊎_elim}
use mathlib.Core.Bool.{Bool, true, false, ◌||◌, cond, true≢false}
use mathlib.Core.List.{List, [], ◌∷◌}
use Prim.Native.Nat.{ℕ, zero, suc, ◌+◌, ◌<◌}
use native.Mathlib.Nat.{add-zero}
use native.Mathlib.Omega.{arith}
use lib.ListN.{length, get_or}
use Rattle.rules.specs.Requirements.{met, judged_from, judgement, is_by, met_by_code}
use Rattle.rules.specs.declared.Requirement.{Requirement}
use Rattle.rules.specs.declared.BitNumber.{BitNumber}

-- bit j of the code meets r, and no earlier bit does
pub record FirstMeets (n : ℕ) (bits : List ℕ) (r : Requirement) (j : ℕ) : Type 0 where
  pub below : j < length bits
  pub meets : met n r (get_or bits j 0) ≡ true
  pub earlier : (i : ℕ) → i < j → met n r (get_or bits i 0) ≡ false

-- no bit of the code meets r
abbrev pub MetByNone : ℕ → List ℕ → Requirement → Type 0
MetByNone n bits r = (j : ℕ) → j < length bits → met n r (get_or bits j 0) ≡ false

-- ---- one of the two holds of every requirement

module _ (n b : ℕ) (bs : List ℕ) (r : Requirement) where
  first-later : met n r b ≡ false → (j : ℕ) → FirstMeets n bs r j → FirstMeets n (b ∷ bs) r (suc j)
  first-later e j f = record { below = omega (arith, f.below); meets = f.meets; earlier = earlier }
    where
      earlier : (i : ℕ) → i < suc j → met n r (get_or (b ∷ bs) i 0) ≡ false
      earlier zero h = e
      earlier (suc i) h = f.earlier i (omega arith)

  none-later : met n r b ≡ false → MetByNone n bs r → MetByNone n (b ∷ bs) r
  none-later e f zero h = e
  none-later e f (suc j) h = f j (omega arith)

pub first_or_none : (n : ℕ) (bits : List ℕ) (r : Requirement) → ((j : ℕ) × FirstMeets n bits r j) ⊎ MetByNone n bits r
first_or_none n [] r = inr (λ j h. absurd (omega arith))
first_or_none n (b ∷ bs) r = go (met n r b) refl (first_or_none n bs r)
  where
    go : (t : Bool) → met n r b ≡ t → ((j : ℕ) × FirstMeets n bs r j) ⊎ MetByNone n bs r → ((j : ℕ) × FirstMeets n (b ∷ bs) r j) ⊎ MetByNone n (b ∷ bs) r
    go true e c = inl (0, record { below = omega arith; meets = e; earlier = λ i h. absurd (omega arith) })
    go false e c = ⊎_elim (λ f. inl (suc f.0, first-later n b bs r e f.0 f.1)) (λ f. inr (none-later n b bs r e f)) c

-- ---- the judgement says which

module _ (k n b : ℕ) (bs : List ℕ) (r : Requirement) where
  pub judged-here : met n r b ≡ true → judged_from k n (b ∷ bs) r ≡ Some (record { 0 = k })
  unfolding judged_from
  judged-here e = rw (e)

  pub judged-later : met n r b ≡ false → judged_from k n (b ∷ bs) r ≡ judged_from (suc k) n bs r
  unfolding judged_from
  judged-later e = rw (e)

first-from : (k n : ℕ) (bits : List ℕ) (r : Requirement) (j : ℕ) → FirstMeets n bits r j → judged_from k n bits r ≡ Some (record { 0 = k + j })
first-from k n [] r j f = absurd (omega (arith, f.below))
first-from k n (b ∷ bs) r zero f = judged-here k n b bs r f.meets ∙ ap (λ (i : ℕ). Some (record { 0 = i })) (sym (add-zero k))
first-from k n (b ∷ bs) r (suc j) f =
    let later : FirstMeets n bs r j = record { below = omega (arith, f.below); meets = f.meets; earlier = λ i h. f.earlier (suc i) (omega arith) } in
    judged-later k n b bs r (f.earlier 0 (omega arith)) ∙ first-from (suc k) n bs r j later ∙ ap (λ (i : ℕ). Some (record { 0 = i })) (omega arith)

none_from : (k n : ℕ) (bits : List ℕ) (r : Requirement) → MetByNone n bits r → judged_from k n bits r ≡ None
unfolding judged_from
none_from k n [] r f = refl
none_from k n (b ∷ bs) r f = judged-later k n b bs r (f 0 (omega arith)) ∙ none_from (suc k) n bs r (λ j h. f (suc j) (omega arith))

-- the number in a judgement
number_in : Option BitNumber → ℕ
number_in (Some b) = b.0
number_in None = 0

module _ (n : ℕ) (bits : List ℕ) (r : Requirement) where
  pub by-judged : (j : ℕ) → FirstMeets n bits r j → judgement n bits r ≡ Some (record { 0 = j })
  unfolding judgement
  by-judged j f = first-from 0 n bits r j f ∙ ap (λ (i : ℕ). Some (record { 0 = i })) (omega arith)

  pub none-judged : MetByNone n bits r → judgement n bits r ≡ None
  unfolding judgement
  none-judged f = none_from 0 n bits r f

  pub judged-by : (b : BitNumber) → judgement n bits r ≡ Some b → FirstMeets n bits r b.0
  unfolding number_in is_by
  judged-by b e =
      ⊎_elim
      (λ f. let same : f.0 ≡ b.0 = ap number_in (sym (by-judged f.0 f.1) ∙ e) in rw (← same) f.1)
      (λ f. absurd (true≢false (ap is_by (sym e ∙ none-judged f))))
      (first_or_none n bits r)

  pub judged-none : judgement n bits r ≡ None → MetByNone n bits r
  unfolding is_by
  judged-none e = ⊎_elim (λ f. absurd (true≢false (ap is_by (sym (by-judged f.0 f.1) ∙ e)))) (λ f. f) (first_or_none n bits r)

-- ---- and so is the yes or no

-- whichever number the first bit has
is-by-from : (k j n : ℕ) (bits : List ℕ) (r : Requirement) → is_by (judged_from k n bits r) ≡ is_by (judged_from j n bits r)
unfolding judged_from is_by
is-by-from k j n [] r = refl
is-by-from k j n (b ∷ bs) r = go (met n r b) (is-by-from (suc k) (suc j) n bs r)
  where
    go : (t : Bool) → is_by (judged_from (suc k) n bs r) ≡ is_by (judged_from (suc j) n bs r) → is_by (cond t (Some (record { 0 = k })) (judged_from (suc k) n bs r)) ≡ is_by (cond t (Some (record { 0 = j })) (judged_from (suc j) n bs r))
    go true q = refl
    go false q = q

pub met-by-nil : (n : ℕ) (r : Requirement) → met_by_code n [] r ≡ false
unfolding met_by_code judged_from
met-by-nil n r = refl

pub met-by-cons : (n b : ℕ) (bs : List ℕ) (r : Requirement) → met_by_code n (b ∷ bs) r ≡ (met n r b || met_by_code n bs r)
unfolding met_by_code judgement judged_from is_by
met-by-cons n b bs r = go (met n r b)
  where
    go : (t : Bool) → is_by (cond t (Some (record { 0 = 0 })) (judged_from 1 n bs r)) ≡ (t || is_by (judged_from 0 n bs r))
    go true = refl
    go false = is-by-from 1 0 n bs r

module _ (n : ℕ) (bits : List ℕ) (r : Requirement) where
  pub met-judged : (b : BitNumber) → judgement n bits r ≡ Some b → met_by_code n bits r ≡ true
  unfolding met_by_code is_by
  met-judged b e = ap is_by e

  pub unmet-judged : judgement n bits r ≡ None → met_by_code n bits r ≡ false
  unfolding met_by_code is_by
  unmet-judged e = ap is_by e
