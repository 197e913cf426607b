-- The proof of the cycle of calls {search}: the measure is the number of inputs that are left, of which each call has one less.
use Rattle.judge_search.proofs.+search.Given as goal

abbrev pub decreases-search : goal.decreases-search
decreases-search l = l.left
