-- `write_rows::printed_count` meets its contract: the rows that are still to come have the rest of the lines.
use mathlib.Core.Path.{◌≡◌, ◌∙◌}
use native.Mathlib.Omega.{arith}
use lib.ListN.{length}
use borrow.Author.Rules.{rules}
use Rattle.rules.specs.Listing.{all_rows}
use Rattle.rules.proofs.Printed.{printed-few}
use Rattle.write_rows.specs.Rows.{row_count}
use Rattle.write_rows.proofs.LeftOut.{count-here, count_none}
use Rattle.write_rows.proofs.Counted.{count-all, row-next, row-end}
use Rattle.write_rows.proofs.printed_count.Goals.{After-row_of, Start}
use Rattle.write_rows.proofs.printed_count.Goals as goal

counted : (c : Start) → row_count c.args.t.head c.args.t.rows ≡ length (all_rows c.args.t)
counted c = count-all c.args.t (search rules) (search rules)

pub overflow_add-count : goal.overflow_add-count
overflow_add-count c =
    let a = c.args in
    let all = c.row_count-k-end.ensures ∙ counted (goal.at.overflow_add-count c).Start in
    let here = count-here a.t.head a.bits.now _ _ _ (row-next a.t c.loop-k.k all (omega arith) c.row_of.ensures.listed) in
    record { fits = omega (arith, here, all, c.loop-k.invariant, printed-few a.t.head a.bits.now (all_rows a.t)) }

pub loop-k-preserved : goal.loop-k-preserved
loop-k-preserved c =
    let a = c.args in
    let all = c.row_count-k-end.ensures ∙ counted (goal.at.loop-k-preserved c).Start in
    let here = count-here a.t.head a.bits.now _ _ _ (row-next a.t c.loop-k.k all (omega arith) c.row_of.ensures.listed) in
    omega (arith, here, c.loop-k.invariant)

pub returns : goal.returns
returns c =
    let a = c.args in
    let all = c.row_count-k-end.ensures ∙ counted (goal.at.returns c).Start in
    omega (arith, count_none a.t.head a.bits.now _ (row-end a.t c.loop-k.k all (omega arith)), c.loop-k.invariant)
