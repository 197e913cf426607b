-- `judge_rows::saying_of` meets its contract.
use mathlib.Core.Path.{ap}
use Prim.Native.Nat.{ℕ}
use Rattle.judge_search.specs.declared.Said.{Said}
use Rattle.judge_rows.specs.Rows.{row_saying}
use Rattle.judge_rows.proofs.saying_of.Goals as goal

pub returns : goal.returns
unfolding row_saying
returns c =
    ap {B = Said} (λ (b : ℕ). record { a = c.args.row.next; b = b; c = c.args.row.outputs.ones; d = c.args.row.outputs.dashes }) c.code_at.ensures
