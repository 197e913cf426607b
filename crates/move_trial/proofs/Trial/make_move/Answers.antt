-- `move_trial::Trial::make_move` meets its contract.
use Rattle.move_trial.proofs.Made.{move-room, move_taken, move-refused}
use Rattle.move_trial.proofs.Trial.make_move.Goals as goal

pub next_of-requires : goal.next_of-requires
next_of-requires c = let a = c.args in
    move-room a.self a.s c.can_move.result c.can_move.ensures c.if-can_move.true

pub returns-then-can_move : goal.returns-then-can_move
returns-then-can_move c = let a = c.args in
    move_taken a.self a.s c.can_move.result c.can_move.ensures c.next_of.result c.accepted.result
    c.if-can_move.true c.next_of.ensures c.accepted.ensures

pub returns : goal.returns
returns c = let a = c.args in
    move-refused a.self a.s c.can_move.result c.can_move.ensures c.refused.result c.if-can_move.false c.refused.ensures
