-- `run_inputs::takes_input` meets its contract.
use native.Mathlib.Omega.{arith}
use Rattle.run_inputs.proofs.Masks.{taken-mask}
use Rattle.run_inputs.proofs.takes_input.Goals as goal

pub returns : goal.returns
returns c =
    taken-mask c.args.inputs c.args.p c.args.x (omega arith) (omega arith) (omega arith) c.everyone_of.ensures
