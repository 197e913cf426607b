-- `line::with_line` meets its contract: the entries from column c on, stored in the table so far, give what all of them give.
use mathlib.Core.Path.{◌≡◌}
use Prim.Native.Nat.{◌≤◌, ◌<◌, ◌-◌}
use Rattle.read_flow.specs.Table.{store_from}
use Rattle.read_flow.proofs.line.with_line.Given as goal

abbrev pub invariant-loop-c : goal.invariant-loop-c
invariant-loop-c l = (l.s < 64) × (l.n ≤ 64) × (l.columns ≤ 16) × (store_from l.n l.l l.s l.c (l.columns - l.c) l.filled ≡ store_from l.n l.l l.s 0 l.columns l.initial.filled)
