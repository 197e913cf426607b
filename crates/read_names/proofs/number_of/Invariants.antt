-- `read_names::number_of` meets its contract: the first place of the name, seen from i, is that seen from the start.
use Rattle.rules.specs.Text.{same}
use Rattle.rules.specs.Kiss.{number_of}
use Rattle.read_names.specs.Names.{names_in}
use Rattle.rules.proofs.FirstPlace.{from}
use Prim.Native.Nat.{◌≤◌}
use mathlib.Core.Path.{◌≡◌}
use lib.ListN.{length}
use Rattle.read_names.proofs.number_of.Given as goal

abbrev pub invariant-loop-i : goal.invariant-loop-i
invariant-loop-i l = (length (names_in l.s l.names) ≡ l.n) × (l.n ≤ 64) × (l.n ≤ l.names.count) × (from (λ n'. same n' l.f) (names_in l.s l.names) l.i ≡ number_of (names_in l.s l.names) l.f) × (length l.names.places ≡ 64)
