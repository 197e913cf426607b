-- `run_symbolic::outputs_told` meets its contract.
use mathlib.Core.Path.{refl}
use Rattle.run_symbolic.specs.Told.{outputs_told}
use Rattle.run_symbolic.proofs.outputs_told.Goals as goal

pub returns : goal.returns
unfolding outputs_told
returns c = refl
