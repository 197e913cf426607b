-- `move_halves::put_worth` meets its contract.
use mathlib.Core.Path.{sym, ◌∙◌}
use Rattle.move_halves.specs.Halves.{worth}
use Rattle.move_halves.proofs.Far.{halved-far}
use Rattle.move_halves.proofs.put_worth.Goals as goal

pub returns-else-few : goal.returns-else-few
returns-else-few c =
    let a = c.args in
    sym (halved-far a.on (worth a.out a.half.right) a.half.all a.half.side a.half.right a.half.rest a.t.now (sym c.few.ensures ∙ c.if-few.false))
