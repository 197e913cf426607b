-- `asks::gather` meets its contract: what is gathered, with the columns from c on, is what all columns give.
use mathlib.Core.Path.{◌≡◌}
use Prim.Native.Nat.{◌-◌}
use Rattle.rules.specs.FlowTable.{flow_asks}
use Rattle.read_flow.specs.Gathering.{nothing, with_all}
use Rattle.read_flow.specs.Table.{columns_from, columns_in}
use Rattle.read_flow.proofs.asks.gather.Given as goal

abbrev pub invariant-loop-c : goal.invariant-loop-c
invariant-loop-c l =
    with_all (flow_asks (columns_from l.table l.n l.c (l.columns - l.c))) l.more ≡ with_all (flow_asks (columns_in l.table l.n l.columns)) nothing
