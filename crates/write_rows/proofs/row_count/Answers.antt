-- `write_rows::row_count` meets its contract.
use mathlib.Core.Path.{sym, ◌∙◌}
use native.Mathlib.Omega.{arith}
use borrow.Author.Tests.{not-true, not-false}
use Rattle.write_rows.proofs.Counted.{count-mealy, count-moore}
use Rattle.write_rows.proofs.row_count.Goals as goal

pub returns-then-not-head : goal.returns-then-not-head
returns-then-not-head c =
    let a = c.args in
    c.least-n.ensures ∙ sym (count-mealy a.head a.rows (not-true _ c.if-not-head.true))

pub returns : goal.returns
returns c =
    let a = c.args in
    omega (arith, c.least.ensures, c.least-n.ensures, count-moore a.head a.rows (not-false _ c.if-not-head.false))
