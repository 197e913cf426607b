-- The proof of the cycle of calls {search}: the measure is the number of places, of which each call has one less. The loop's invariant: the search from here is
-- the search from the start, and the places are as they came.
use mathlib.Core.Path.{◌≡◌}
use lib.ListN.{length}
use Rattle.code_search.specs.Search.{searched}
use Rattle.code_search.proofs.+search.Given as goal

abbrev pub decreases-search : goal.decreases-search
decreases-search l = length l.columns.now

abbrev pub invariant-loop-v : goal.invariant-loop-v
invariant-loop-v l =
    (l.columns ≡ l.initial.columns) × (searched l.met (length l.initial.columns) l.v l.left ≡ searched l.met (length l.initial.columns) l.from l.left)
