-- `move_table::raise` meets its contract: what is left to raise is what the rest of the set raises.
use Prim.Native.Nat.{ℕ}
use mathlib.Core.Path.{sym, ap, ◌∙◌}
use Rattle.move_table.specs.Table.{raised}
use Rattle.move_table.proofs.Raising.{Turn, turn, raised-none}
use Rattle.move_table.proofs.raise.Goals.{After-without_lowest-rest}
use Rattle.move_table.proofs.raise.Goals as goal

turned : (c : After-without_lowest-rest) → Turn c.args.by c.loop-rest.rest c.without_lowest-rest.result c.loop-rest.t c.raise_one.new.t
turned c =
    turn _ _ _ _ _ _ c.loop-rest.invariant.1 c.loop-rest-test.true c.lowest-k.ensures c.without_lowest-rest.ensures
    c.raise_one.ensures

pub loop-rest-smaller : goal.loop-rest-smaller
loop-rest-smaller c = (turned c).fewer

pub loop-rest-preserved : goal.loop-rest-preserved
loop-rest-preserved c =
    ((turned c).same ∙ c.loop-rest.invariant.0, (turned c).fits, c.raise_one.auto.t ∙ c.loop-rest.invariant.2)

pub returns : goal.returns
returns c =
    let by = c.args.by in
    sym (raised-none by 0 c.loop-rest.t) ∙ ap (λ (r : ℕ). raised by r 0 c.loop-rest.t) (sym c.loop-rest-test.false) ∙ c.loop-rest.invariant.0
