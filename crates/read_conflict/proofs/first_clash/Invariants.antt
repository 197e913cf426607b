-- `read_conflict::first_clash` meets its contract: what is still to be scanned decides as all pairs do.
use mathlib.Core.Path.{◌≡◌}
use Prim.Native.Nat.{◌+◌, ◌≤◌}
use lib.ListN.{length, take, drop}
use Rattle.rules.specs.Listing.{clash_with, conflict}
use Rattle.std.specs.Prelude.{Ok}
use Rattle.read_conflict.proofs.first_clash.Given as goal

abbrev pub invariant-loop-j : goal.invariant-loop-j
invariant-loop-j l = (l.found ≡ Ok tt) × (clash_with l.a (drop l.j (take l.rows l.table)) ≡ clash_with l.a (drop (l.i + 1) (take l.rows l.table)))

abbrev pub invariant-pairs : goal.invariant-pairs
invariant-pairs l = (length (take l.rows l.table) ≡ l.n) × (l.n ≤ 128) × (l.found ≡ Ok tt) × (conflict (drop l.i (take l.rows l.table)) ≡ conflict (take l.rows l.table))
