-- When a state can move: what is known where no case of refusal 11 is there.
use Rattle.std.proofs.Common.{◌≡◌, ℕ, ◌<◌, ◌≤◌, Bool, true, false, ◌&&◌, eqb, ltb, leb, sym, ap, ◌∙◌, ap₂, ltb-true, le-ltb, eqb-true, le-leb, leb-true}
use Rattle.sets.specs.Sets.{has}
use Rattle.sets.proofs.Every.{and_first, and_second}
use Rattle.rules.specs.Limits.{most_states, most_trial}
use Rattle.move_trial.specs.Movable.{movable}

module _ (n k moved s : ℕ) where
  -- a state below n that has not moved
  abbrev unmoved : Bool
  unmoved = ltb s n && eqb (has moved s) 0

  -- within the limits, that is all
  pub within-limits : n ≤ most_states → k ≤ most_trial → movable n k moved s ≡ unmoved
  unfolding movable
  within-limits h l = ap₂ (λ (t u : Bool). t && u && unmoved) (le-leb n most_states h) (le-leb k most_trial l)

  pub no-state : n ≤ most_states → k ≤ most_trial → n ≤ s → false ≡ movable n k moved s
  no-state h l g = sym (within-limits h l ∙ ap (λ (t : Bool). t && eqb (has moved s) 0) (le-ltb s n g))

-- what a state that can move has
pub record Movable (n k moved s : ℕ) : Type 0 where
  pub few-states : n ≤ most_states
  pub few : k ≤ most_trial
  pub state : s < n
  pub unmoved-yet : has moved s ≡ 0

pub movable-has : (n k moved s : ℕ) → movable n k moved s ≡ true → Movable n k moved s
unfolding movable
movable-has n k moved s e =
    let l = and_first (leb n most_states && leb k most_trial) (unmoved n k moved s) e in
    let u = and_second (leb n most_states && leb k most_trial) (unmoved n k moved s) e in
    record {
      few-states = leb-true n most_states (and_first (leb n most_states) (leb k most_trial) l);
      few = leb-true k most_trial (and_second (leb n most_states) (leb k most_trial) l);
      state = ltb-true s n (and_first (ltb s n) (eqb (has moved s) 0) u);
      unmoved-yet = eqb-true (has moved s) 0 (and_second (ltb s n) (eqb (has moved s) 0) u);
    }
