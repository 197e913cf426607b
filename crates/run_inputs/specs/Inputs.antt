-- The input of a row against an input vector: at each input it has a dash, or the vector's digit.
use Rattle.std.specs.Prelude.{Bool, ◌||◌, ℕ, eqb}
use Rattle.sets.specs.Sets.{has, every}
use Rattle.rules.specs.declared.Pattern.{Pattern}

unfoldable pub takes_input : ℕ → Pattern → ℕ → Bool
unfolding every
takes_input i p x = every i (λ j. eqb (has p.dashes j) 1 || eqb (has p.ones j) (has x j))
