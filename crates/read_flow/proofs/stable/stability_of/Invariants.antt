-- `stable::stability_of` meets its contract: the states from s on decide what all states do.
use mathlib.Core.Path.{◌≡◌}
use Prim.Native.Nat.{◌-◌}
use Rattle.sets.specs.Sets.{states_from}
use Rattle.rules.specs.FlowTable.{stability}
use Rattle.read_flow.specs.Table.{columns_in}
use Rattle.read_flow.proofs.stable.stability_of.Given as goal

abbrev pub invariant-loop-s : goal.invariant-loop-s
invariant-loop-s l = stability (columns_in l.table l.n l.columns) (states_from l.s (l.n - l.s)) ≡ stability (columns_in l.table l.n l.columns) (states_from 0 l.n)
