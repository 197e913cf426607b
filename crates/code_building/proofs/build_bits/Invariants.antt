-- `code_building::build_bits` meets its contract: the rest of the rule from here gives the whole code.
use mathlib.Core.Path.{◌≡◌}
use mathlib.Core.List.{[]}
use Prim.Native.Nat.{◌-◌}
use lib.ListN.{length}
use Rattle.bit_live.specs.Live.{live_in}
use Rattle.code_building.proofs.Running.{Running}
use Rattle.code_building.proofs.build_bits.Given as goal

abbrev pub invariant-loop-width : goal.invariant-loop-width
invariant-loop-width l = Running l.n l.most (live_in l.n [] l.initial.fs) l.initial.bits l.fs l.bits l.width l.left l.live l.passes l.looks × (length l.fs ≡ length l.initial.fs) × (length l.bits ≡ length l.initial.bits)

abbrev pub decreases-loop-width : goal.decreases-loop-width
decreases-loop-width l = l.most - l.width
