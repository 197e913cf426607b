-- `move_trial::Trial::start` meets its contract.
use Rattle.move_trial.proofs.Made.{start-room, start-taken, start-refused}
use Rattle.move_trial.proofs.Trial.start.Goals as goal

pub shown_at-requires : goal.shown_at-requires
shown_at-requires c = let a = c.args in
    start-room a.n a.bit a.firsts.now a.seconds.now c.can_start.result c.can_start.ensures c.if-can_start.true

pub returns-then-can_start : goal.returns-then-can_start
returns-then-can_start c = let a = c.args in
    start-taken a.n a.bit a.firsts.now a.seconds.now c.can_start.result c.can_start.ensures c.shown_at.result c.accepted.result
    c.if-can_start.true c.shown_at.ensures c.accepted.ensures

pub returns : goal.returns
returns c = let a = c.args in
    start-refused a.n a.bit a.firsts.now a.seconds.now c.can_start.result c.can_start.ensures c.empty.result c.refused.result
    c.if-can_start.false c.empty.ensures c.refused.ensures
