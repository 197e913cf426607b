-- `move_trial::Trial::gain` meets its contract.
use Rattle.move_trial.proofs.Levels.{gain-is}
use Rattle.move_trial.proofs.Made.{gain-none, gain-read}
use Rattle.std.proofs.Common.{◌∙◌, rules}
use Rattle.move_trial.proofs.Trial.gain.Goals as goal

pub returns-then-self-k : goal.returns-then-self-k
returns-then-self-k c = let a = c.args in gain-none a.self a.s c.if-self-k.true

pub returns : goal.returns
returns c = let a = c.args in
    gain-is c.level_at.result (search rules)
    ∙ gain-read a.self a.s c.level_at.result c.if-self-k.false c.level_at.ensures
