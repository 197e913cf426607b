-- `move_table::raise` meets its contract: what is left to raise is what the rest of the set raises.
use Prim.Native.Nat.{◌<◌, ◌^◌}
use mathlib.Core.Path.{◌≡◌}
use lib.ListN.{length}
use Rattle.sets.specs.Sets.{size}
use Rattle.move_table.specs.Table.{raised}
use Rattle.move_table.proofs.raise.Given as goal

abbrev pub invariant-loop-rest : goal.invariant-loop-rest
invariant-loop-rest l = (raised l.by l.rest 0 l.t ≡ raised l.by l.m 0 l.initial.t) × (l.rest < 2 ^ 64) × (length l.t ≡ length l.initial.t)

abbrev pub decreases-loop-rest : goal.decreases-loop-rest
decreases-loop-rest l = size l.rest
