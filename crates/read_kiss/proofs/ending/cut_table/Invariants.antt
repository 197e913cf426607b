-- `ending::cut_table` meets its contract: the rows below i are cut.
use Rattle.sets.specs.Sets.{everyone}
use Rattle.rules.specs.Listing.{no_row}
use Rattle.rules.specs.Kiss.{cut_to}
use Prim.Native.Nat.{ℕ, ◌<◌}
use mathlib.Core.Path.{◌≡◌}
use lib.ListN.{length, get_or}
use Rattle.read_kiss.proofs.ending.cut_table.Given as goal

abbrev pub invariant-loop-i : goal.invariant-loop-i
invariant-loop-i l = (l.table ≡ l.initial.table) × (l.all ≡ everyone l.n) × (length l.initial.table ≡ 128) × (length l.next ≡ 128) × ((j : ℕ) → j < l.i → get_or l.next j no_row ≡ cut_to l.n (get_or l.initial.table j no_row))
