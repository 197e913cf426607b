-- `judge_rows::firing_of` meets its contract.
use mathlib.Core.Path.{refl}
use Rattle.judge_rows.specs.Rows.{row_firing}
use Rattle.judge_rows.proofs.firing_of.Goals as goal

pub returns : goal.returns
unfolding row_firing
returns c = refl
