-- The first state that stands in a live pair.
use Rattle.std.specs.Prelude.{◌≡◌, ℕ, ◌<◌, min, List, Option, ◌≢◌}
use Rattle.std.specs.Option.{MatchOption}
use Rattle.move_pairs.specs.Pairs.{partners_of}

-- i is the first state with a partner
pub record FirstPaired (n : ℕ) (bits : List ℕ) (i : ℕ) : Type 0 where
  pub none : (k : ℕ) → k < i → partners_of n bits k ≡ 0
  pub some : partners_of n bits i ≢ 0
  pub within : i < min n 64

-- the partners of the first state with a partner, or nothing where no state has one
abbrev pub FirstPartners : ℕ → List ℕ → Option ℕ → Type 0
FirstPartners n bits r = MatchOption r ((k : ℕ) → k < min n 64 → partners_of n bits k ≡ 0) (λ p. (i : ℕ) × FirstPaired n bits i × (p ≡ partners_of n bits i))
