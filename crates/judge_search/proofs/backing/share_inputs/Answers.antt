-- `judge_search::backing::share_inputs` meets its contract.
use native.Mathlib.Omega.{arith}
use Rattle.judge_search.proofs.Backed.{inputs-mask}
use Rattle.judge_search.proofs.backing.share_inputs.Goals as goal

pub returns : goal.returns
returns c =
    inputs-mask c.args.inputs c.args.one.ones c.args.other.ones c.args.one.dashes c.args.other.dashes (omega arith) (omega arith) c.requires c.everyone_of.ensures
