-- `move_halves::put_half` meets its contract.
use Rattle.move_halves.proofs.Halving.{halved_none, halved-one}
use Rattle.move_halves.proofs.Far.{halved-far}
use mathlib.Core.Path.{sym, ◌∙◌}
use borrow.Author.Rules.{rules}
use Rattle.move_halves.proofs.put_half.Goals as goal

pub returns-then-half-eq0 : goal.returns-then-half-eq0
returns-then-half-eq0 c =
    let a = c.args in
    let z = halved_none a.on a.w a.half.all a.half.side a.half.right a.half.rest a.t.now c.if-half-eq0.true in
    cc

pub returns-then-few : goal.returns-then-few
returns-then-few c =
    let a = c.args in
    let z = halved-one a.on a.w a.half.all a.half.side a.half.right a.half.rest a.t.now (search rules) c.if-half-eq0.false (sym c.few.ensures ∙ c.if-few.true) in
    cc

pub returns-else-few : goal.returns-else-few
returns-else-few c =
    let a = c.args in
    sym (halved-far a.on a.w a.half.all a.half.side a.half.right a.half.rest a.t.now (sym c.few.ensures ∙ c.if-few.false))
