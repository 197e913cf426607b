-- When a record can start: what is known where no case of refusal 11 is there.
use Rattle.std.proofs.Common.{◌≡◌, ℕ, ◌^◌, ◌<◌, ◌≤◌, Bool, true, ◌&&◌, eqb, leb, List, length, ltb-true, eqb-true, leb-true}
use Rattle.sets.proofs.Every.{and_first, and_second}
use Rattle.rules.specs.Limits.{most_states, most_trial}
use Rattle.rules.specs.Trial.{within, paired, all_sound, startable}

module _ (n b : ℕ) (fs gs : List ℕ) where
  -- the tests, so many of them
  abbrev two : Bool
  two = leb 1 n && leb n most_states

  abbrev three : Bool
  three = two && eqb (length fs) (length gs)

  abbrev four : Bool
  four = three && leb (length fs) most_trial

  abbrev five : Bool
  five = four && within n b

-- what a start that is not refused has
pub record Startable (n b : ℕ) (fs gs : List ℕ) : Type 0 where
  pub some-states : 1 ≤ n
  pub few-states : n ≤ most_states
  pub like : length fs ≡ length gs
  pub few : length fs ≤ most_trial
  pub bit : b < 2 ^ n
  pub sound : all_sound n (paired fs gs) ≡ true

pub startable-has : (n b : ℕ) (fs gs : List ℕ) → startable n b fs gs ≡ true → Startable n b fs gs
unfolding startable
startable-has n b fs gs e₆ =
    let e₅ = and_first (five n b fs gs) (all_sound n (paired fs gs)) e₆ in
    let e₄ = and_first (four n b fs gs) (within n b) e₅ in
    let e₃ = and_first (three n b fs gs) (leb (length fs) most_trial) e₄ in
    let e₂ = and_first (two n b fs gs) (eqb (length fs) (length gs)) e₃ in
    record {
      some-states = leb-true 1 n (and_first (leb 1 n) (leb n most_states) e₂);
      few-states = leb-true n most_states (and_second (leb 1 n) (leb n most_states) e₂);
      like = eqb-true (length fs) (length gs) (and_second (two n b fs gs) (eqb (length fs) (length gs)) e₃);
      few = leb-true (length fs) most_trial (and_second (three n b fs gs) (leb (length fs) most_trial) e₄);
      bit = ltb-true b (2 ^ n) (and_second (four n b fs gs) (within n b) e₅);
      sound = and_second (five n b fs gs) (all_sound n (paired fs gs)) e₆;
    }
