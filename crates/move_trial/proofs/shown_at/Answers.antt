-- `move_trial::shown_at` meets its contract.
use Rattle.move_trial.proofs.Made.{shown-made}
use Rattle.move_trial.proofs.shown_at.Goals as goal

pub returns : goal.returns
returns c = let a = c.args in
    shown-made a.n a.bit a.firsts.now a.seconds.now _ _ c.families_of-families.ensures c.levels_at-table.ensures
