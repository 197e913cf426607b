-- `asks::with_others` meets its contract: what is gathered, with the sets from i on, is what is gathered with all of them.
use mathlib.Core.Path.{◌≡◌}
use mathlib.Core.List.{map}
use lib.ListN.{drop}
use Rattle.read_flow.specs.Gathering.{between, with_all}
use Rattle.read_flow.proofs.asks.with_others.Given as goal

abbrev pub invariant-loop-other : goal.invariant-loop-other
invariant-loop-other l = with_all (map (between l.first) (drop l.other-index l.others)) l.more ≡ with_all (map (between l.first) l.others) l.initial.more
