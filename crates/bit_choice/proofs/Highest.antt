-- The choice by the gain table is 01's choice.
use Rattle.std.proofs.Common.{◌≡◌, ℕ, zero, suc, ◌+◌, ◌<◌, ◌≤◌, Bool, true, false, cond, ltb, List, get_or, sym, refl, ap, ◌∙◌, arith, ltb-false, ltb-true, le-ltb, lt-ltb}
use Rattle.sets.specs.Sets.{has, flip}
use Rattle.rules.specs.Requirements.{met_count}
use Rattle.rules.specs.OneBit.{rather, before, choice}
use Rattle.rules.specs.declared.Requirement.{Requirement}
use Rattle.bit_choice.specs.Pass.{highest}
use Rattle.move_table.proofs.Either.{either}
use Rattle.move_table.proofs.Shows.{Shows}

-- two comparisons that say the same: the numbers of one differ as those of the other do
pub same-ltb : (a b c d : ℕ) → a + d ≡ b + c → ltb a b ≡ ltb c d
same-ltb a b c d h = go (ltb a b) refl
  where
    go : (t : Bool) → ltb a b ≡ t → ltb a b ≡ ltb c d
    go true e = e ∙ sym (lt-ltb c d (omega (arith, ltb-true a b e)))
    go false e = e ∙ sym (le-ltb c d (omega (arith, ltb-false a b e)))

pub highest-lt : (n free : ℕ) (t : List ℕ) (k : ℕ) → 0 < n → k ≤ n → highest free t k < n
unfolding highest
highest-lt n free t zero p q = p
highest-lt n free t (suc k) p q =
    let r : ℕ = highest free t k in
    either (λ (s : ℕ). s < n) (rather (has free k) (has free r) (ltb (get_or t r 0) (get_or t k 0))) k r (λ _. q) (λ _. highest-lt n free t k p (omega arith))

pub highest-choice : (n : ℕ) (rs : List Requirement) (b free : ℕ) (t : List ℕ) → Shows n rs b t → (k : ℕ) → k ≤ n → highest free t k ≡ choice n rs b free k
unfolding highest choice before
highest-choice n rs b free t shows zero h = refl
highest-choice n rs b free t shows (suc k) h =
    let r : ℕ = highest free t k in
    let e : ltb (get_or t r 0) (get_or t k 0) ≡ ltb (met_count n rs (flip b r)) (met_count n rs (flip b k)) =
    same-ltb (get_or t r 0) (get_or t k 0) (met_count n rs (flip b r)) (met_count n rs (flip b k))
    (omega (arith, shows.each r (highest-lt n free t k (omega arith) (omega arith)), shows.each k h)) in
    ap (λ (u : Bool). cond (rather (has free k) (has free r) u) k r) e
    ∙ ap (λ (c : ℕ). cond (before n rs b free k c) k c) (highest-choice n rs b free t shows k (omega arith))
