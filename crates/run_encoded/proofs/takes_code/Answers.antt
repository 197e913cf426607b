-- `run_encoded::takes_code` meets its contract.
use native.Mathlib.Omega.{arith}
use Rattle.run_encoded.proofs.Steps.{code-mask}
use Rattle.run_encoded.proofs.takes_code.Goals as goal

pub returns : goal.returns
returns c =
    code-mask c.args.width c.args.q c.args.code (omega arith) (omega arith) (omega arith) c.everyone_of.ensures
