-- `asks::sets_of` meets its contract: the sets laid, with those that the entries from s on open, are all sets.
use Prim.Native.Nat.{◌≤◌}
use lib.ListN.{length}
use Rattle.read_flow.proofs.Sets.{Laid}
use Rattle.read_flow.proofs.asks.sets_of.Given as goal

abbrev pub invariant-loop-d : goal.invariant-loop-d
invariant-loop-d l = (length l.column ≤ 64) × Laid l.column l.d-index l.got
