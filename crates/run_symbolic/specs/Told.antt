-- What rows tell that fire at an input vector and a state, one after the other.
use Rattle.std.specs.Prelude.{cond, List, [], ◌∷◌, ℕ, eqb}
use Rattle.std.specs.Int.Bits.{bit_and, bit_or, bit_xor}
use Rattle.rules.specs.Cover.{fires}
use Rattle.rules.specs.declared.Head.{Head}
use Rattle.rules.specs.declared.Pattern.{Pattern}
use Rattle.rules.specs.declared.Row.{Row}
use Rattle.run_symbolic.specs.declared.Told.{Told}

-- nothing yet
abbrev pub untold : Told
untold = record { next = 0; ones = 0; dashes = 0 }

-- and with what a row says: the next state that was named first, and the outputs of both
abbrev pub told_of : Told → Row → Told
told_of a r = record { next = cond (eqb a.next 0) r.next a.next; ones = bit_or a.ones r.outputs.ones; dashes = bit_or a.dashes r.outputs.dashes }

-- if it fires
unfoldable pub told_with : Head → ℕ → ℕ → Told → Row → Told
unfolding fires
told_with h x s a r = cond (fires h r x s) (told_of a r) a

unfoldable pub told_by : Head → ℕ → ℕ → Told → List Row → Told
unfolding told_with
told_by h x s a [] = a
told_by h x s a (r ∷ rs) = told_by h x s (told_with h x s a r) rs

-- the outputs as characters: 1 where some row says 1, else a dash where some row says dash
unfoldable pub outputs_told : Told → Pattern
outputs_told a = record { ones = a.ones; dashes = bit_xor a.dashes (bit_and a.dashes a.ones) }
