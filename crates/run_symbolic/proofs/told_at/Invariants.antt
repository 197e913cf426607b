-- `run_symbolic::told_at` meets its contract: the rows that are still to come tell the rest.
use mathlib.Core.Path.{◌≡◌}
use lib.ListN.{drop}
use Rattle.rules.specs.Listing.{all_rows}
use Rattle.run_symbolic.specs.Told.{untold, told_by}
use Rattle.run_symbolic.proofs.told_at.Given as goal

abbrev pub invariant-loop-k : goal.invariant-loop-k
invariant-loop-k l = told_by l.t.head l.x l.s l.told (drop l.k (all_rows l.t)) ≡ told_by l.t.head l.x l.s untold (all_rows l.t)
