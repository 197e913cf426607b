-- `judge_rows::put_listing` meets its contract: the rows that are still to come make the rest.
use mathlib.Core.Path.{◌≡◌}
use lib.ListN.{drop}
use Rattle.rules.specs.Listing.{all_rows}
use Rattle.judge_rows.specs.Rows.{listing_laid}
use Rattle.judge_rows.proofs.put_listing.Given as goal

abbrev pub invariant-loop-k : goal.invariant-loop-k
invariant-loop-k l =
    listing_laid l.codes l.k (drop l.k (all_rows l.t)) (l.fires, l.says) ≡ listing_laid l.codes 0 (all_rows l.t) (l.initial.fires, l.initial.says)
