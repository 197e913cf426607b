-- `write_rows::said_one` meets its contract: the rows that are still to come say the rest.
use mathlib.Core.Path.{◌≡◌}
use lib.ListN.{drop}
use Rattle.rules.specs.Listing.{all_rows}
use Rattle.write_rows.specs.Rows.{said_one}
use Rattle.write_rows.proofs.said_one.Given as goal

abbrev pub invariant-loop-k : goal.invariant-loop-k
invariant-loop-k l = said_one l.row l.mask (drop l.k (all_rows l.t)) ≡ said_one l.row l.row.outputs.ones (all_rows l.t)
