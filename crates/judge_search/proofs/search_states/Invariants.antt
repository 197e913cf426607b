-- `judge_search::search_states` meets its contract: the states that were passed have no fault.
use mathlib.Core.Path.{◌≡◌}
use Prim.Native.Nat.{◌-◌, min}
use Rattle.rules.specs.Limits.{most_inputs}
use Rattle.rules.specs.Check.{fault_from}
use Rattle.judge_search.specs.Search.{fails_at}
use Rattle.judge_search.proofs.search_states.Given as goal

abbrev pub invariant-loop-s : goal.invariant-loop-s
invariant-loop-s l =
    fault_from (fails_at l.fires l.says l.n) l.n l.s (l.states - l.s) ≡ fault_from (fails_at l.fires l.says (min l.inputs most_inputs)) (min l.inputs most_inputs) 0 l.states
