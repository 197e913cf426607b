-- What the encoder of small machines is given: families whose requirements are of n states, and not more of them than a listing can ask.
use Rattle.std.specs.Prelude.{ℕ, ◌≤◌, ◌≡◌, List, length}
use Rattle.rules.specs.Limits.{most_states, most_asked, most_small, most_small_asked}
use Rattle.rules.proofs.Good.{AllGood}
use Rattle.families.specs.Families.{requirements_in}

pub record Drawn (n : ℕ) (fs : List ℕ) : Type 0 where
  pub some : 1 ≤ n
  pub states : n ≤ most_states
  pub asked : length (requirements_in fs) ≤ most_asked
  pub good : AllGood n (requirements_in fs)

-- a small machine, with so many of them
pub record Small (n asked : ℕ) (fs : List ℕ) : Type 0 where
  pub drawn : Drawn n fs
  pub small : n ≤ most_small
  pub count : asked ≡ length (requirements_in fs)
  pub few : asked ≤ most_small_asked
