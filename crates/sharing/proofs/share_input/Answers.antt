-- `sharing::share_input` meets its contract.
use native.Mathlib.Omega.{arith}
use Rattle.sharing.proofs.Inputs.{share-mask}
use Rattle.sharing.proofs.share_input.Goals as goal

pub returns : goal.returns
returns c =
    let a = c.args in
    share-mask a.a a.b (omega arith) (omega arith)
