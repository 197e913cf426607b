-- `stable::goes_well_in` meets its contract.
use mathlib.Core.Path.{sym, ◌∙◌}
use native.Mathlib.Omega.{arith}
use Rattle.read_flow.proofs.Tables.{well-at}
use Rattle.read_flow.proofs.stable.goes_well_in.Goals as goal

pub returns : goal.returns
returns c = c.is_stable.ensures ∙ sym (well-at _ _ (omega arith))
