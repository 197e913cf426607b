-- `judge_search::find_fault` meets its contract: where the rows are alike one by one there is no fault.
use mathlib.Core.Path.{ap, ◌∙◌}
use Prim.Native.Nat.{ℕ}
use Rattle.rules.specs.Check.{fault_from}
use Rattle.judge_search.specs.Search.{fails_at}
use Rattle.judge_search.proofs.RowByRow.{no-fault}
use Rattle.judge_search.proofs.find_fault.Goals as goal

pub returns-then-is_row_by_row : goal.returns-then-is_row_by_row
returns-then-is_row_by_row c =
    let a = c.args in
    no-fault a.fires.now a.says.now c.least-n.result a.states c.is_row_by_row.ensures c.if-is_row_by_row.true
    ∙ ap (λ (i : ℕ). fault_from (fails_at a.fires.now a.says.now i) i 0 a.states) c.least-n.ensures
