-- `asks::set_of` meets its contract: the mask stands for the entries from i on.
use mathlib.Core.Path.{◌≡◌}
use Prim.Native.Nat.{◌≤◌}
use lib.ListN.{length, drop}
use Rattle.rules.specs.Text.{set_of}
use Rattle.read_flow.proofs.asks.set_of.Given as goal

abbrev pub invariant-loop-i : goal.invariant-loop-i
invariant-loop-i l = (l.i ≤ length l.column) × (length l.column ≤ 64) × (l.m ≡ set_of l.d (drop l.i l.column))
