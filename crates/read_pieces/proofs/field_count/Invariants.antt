-- `read_pieces::field_count` meets its contract: the fields met so far, with those from i on, are one more than all.
use mathlib.Core.Path.{◌≡◌}
use Prim.Native.Nat.{◌+◌, ◌≤◌}
use lib.ListN.{length, drop}
use Rattle.rules.specs.Text.{fields_of}
use Rattle.read_pieces.proofs.field_count.Given as goal

abbrev pub invariant-loop-x : goal.invariant-loop-x
invariant-loop-x l = (l.n ≤ l.x-index + 1) × (l.n + length (fields_of (drop l.x-index l.l)) ≡ length (fields_of l.l) + 1)
