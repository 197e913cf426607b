-- `stable::goes_well` meets its contract: the columns from c on decide what all columns do.
use mathlib.Core.Path.{◌≡◌}
use Prim.Native.Nat.{◌-◌}
use Rattle.rules.specs.FlowTable.{goes_well}
use Rattle.read_flow.specs.Table.{columns_from, columns_in}
use Rattle.read_flow.proofs.stable.goes_well.Given as goal

abbrev pub invariant-loop-c : goal.invariant-loop-c
invariant-loop-c l = goes_well (columns_from l.table l.n l.c (l.columns - l.c)) l.s ≡ goes_well (columns_in l.table l.n l.columns) l.s
