-- `passes::choose` meets its contract: r is the choice among the states passed, and the rest has the free ones that are still to come.
use Rattle.sets.specs.Sets.{size}
use Rattle.bit_choice.proofs.Ahead.{Ahead}
use Rattle.bit_choice.proofs.choose.Given as goal

abbrev pub invariant-loop-rest : goal.invariant-loop-rest
invariant-loop-rest l = Ahead l.n l.free l.t l.r l.rest

abbrev pub decreases-loop-rest : goal.decreases-loop-rest
decreases-loop-rest l = size l.rest
