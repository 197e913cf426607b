-- `judge_rows::put_line` meets its contract.
use mathlib.Core.Path.{ap, ◌∙◌}
use Prim.Native.Nat.{ℕ}
use native.Mathlib.Omega.{arith}
use lib.ListN.{take}
use Rattle.judge_rows.specs.Rows.{line_firing}
use Rattle.judge_rows.proofs.Laws.{line-past, line-put}
use Rattle.judge_rows.proofs.put_line.Goals as goal

pub returns-then-row-ge-ALL_ROWS : goal.returns-then-row-ge-ALL_ROWS
returns-then-row-ge-ALL_ROWS c = line-past _ _ _ _ _ _ _ c.if-row-ge-ALL_ROWS.true

pub returns : goal.returns
returns c =
    let a = c.args in
    line-put a.inputs _ _ a.row _ _ _ (omega arith) (c.line_firing.ensures ∙ ap (λ (k : ℕ). line_firing a.inputs (take k a.codes.table) a.l.now) c.least-n.ensures) c.line_saying.ensures c.put_firing.ensures c.put_saying.ensures
