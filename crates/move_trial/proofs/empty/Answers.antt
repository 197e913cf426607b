-- `move_trial::empty` meets its contract.
use Rattle.std.proofs.Common.{refl}
use Rattle.move_trial.specs.Record.{none}
use Rattle.move_trial.proofs.empty.Goals as goal

pub returns : goal.returns
unfolding none
returns c = refl
