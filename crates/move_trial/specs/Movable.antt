-- Which move a trial record takes, by its numbers alone; which start it takes is in 01's words in rules.
use Rattle.std.specs.Prelude.{ℕ, Bool, ◌&&◌, ◌==◌, nat_le, nat_lt}
use Rattle.sets.specs.Sets.{has}
use Rattle.rules.specs.Limits.{most_states, most_trial}

-- s can move in a record of n states and k requirements: both are within 01's limits, as in every record that a start gave, and s is
-- below n and has not moved
unfoldable pub movable : ℕ → ℕ → ℕ → ℕ → Bool
movable n k moved s = nat_le n most_states && nat_le k most_trial && (nat_lt s n && has moved s == 0)
