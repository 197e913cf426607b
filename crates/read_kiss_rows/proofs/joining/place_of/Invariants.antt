-- `joining::place_of` meets its contract: the first place of such a row, seen from i, is that seen from the start.
use Rattle.rules.specs.Kiss.{same_row, place_of}
use Rattle.rules.proofs.FirstPlace.{from}
use Prim.Native.Nat.{◌≤◌}
use mathlib.Core.Path.{◌≡◌}
use lib.ListN.{length, take}
use Rattle.read_kiss_rows.proofs.joining.place_of.Given as goal

abbrev pub invariant-loop-i : goal.invariant-loop-i
invariant-loop-i l = (length (take l.rows l.table) ≡ l.n) × (l.n ≤ 128) × (l.n ≤ l.rows) × (from (same_row l.r) (take l.rows l.table) l.i ≡ place_of l.r (take l.rows l.table))
