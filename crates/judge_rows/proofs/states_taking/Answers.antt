-- `judge_rows::states_taking` meets its contract: the set stands for the states from s on.
use mathlib.Core.Path.{◌≡◌}
use native.Mathlib.Omega.{arith}
use lib.ListN.{length}
use Rattle.judge_rows.proofs.Laws.{taking-room, taking-back, taking-small, taking-end}
use Rattle.judge_rows.proofs.states_taking.Goals as goal

pub loop-s-init : goal.loop-s-init
loop-s-init c =
    let l : length c.args.codes ≡ 64 = c.well_formed.1.0.1.0.1 in
    (c.requires, l, taking-end _ _ _ l c.requires)

pub overflow_mul-set : goal.overflow_mul-set
overflow_mul-set c =
    let l = c.loop-s in
    omega (arith, taking-room _ _ _ l.s l.invariant.1 l.invariant.0 (omega arith) (omega arith) l.invariant.2)

pub overflow_add-set : goal.overflow_add-set
overflow_add-set c =
    let l = c.loop-s in
    omega (arith, taking-small _ _ c.takes_digit.ensures, taking-room _ _ _ l.s l.invariant.1 l.invariant.0 (omega arith) (omega arith) l.invariant.2)

pub loop-s-preserved : goal.loop-s-preserved
loop-s-preserved c =
    let l = c.loop-s in
    (l.invariant.0, l.invariant.1, taking-back _ _ _ l.s l.invariant.1 l.invariant.0 (omega arith) (omega arith) l.invariant.2 c.takes_digit.ensures)
