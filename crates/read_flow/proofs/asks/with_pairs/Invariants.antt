-- `asks::with_pairs` meets its contract: what is gathered, with each two of the sets from i on, is what is gathered with each two of them all.
use mathlib.Core.Path.{◌≡◌}
use lib.ListN.{drop}
use Rattle.rules.specs.FlowTable.{set_pairs}
use Rattle.read_flow.specs.Gathering.{with_all}
use Rattle.read_flow.proofs.asks.with_pairs.Given as goal

abbrev pub invariant-loop-i : goal.invariant-loop-i
invariant-loop-i l = with_all (set_pairs (drop l.i l.sets)) l.more ≡ with_all (set_pairs l.sets) l.initial.more
