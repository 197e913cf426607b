-- `write_rows::said_one` meets its contract: the rows that are still to come say the rest.
use mathlib.Core.Path.{◌≡◌, sym, ◌∙◌}
use native.Mathlib.Omega.{arith}
use lib.ListN.{length}
use borrow.Author.Rules.{rules}
use Rattle.rules.specs.Listing.{all_rows}
use Rattle.write_rows.specs.Rows.{row_count}
use Rattle.write_rows.proofs.Kept.{said_here, said-none}
use Rattle.write_rows.proofs.Counted.{count-all, row-next, row-end}
use Rattle.write_rows.proofs.said_one.Goals.{Start}
use Rattle.write_rows.proofs.said_one.Goals as goal

counted : (c : Start) → row_count c.args.t.head c.args.t.rows ≡ length (all_rows c.args.t)
counted c = count-all c.args.t (search rules) (search rules)

pub loop-k-preserved : goal.loop-k-preserved
loop-k-preserved c =
    let a = c.args in
    let all = c.row_count-k-end.ensures ∙ counted (goal.at.loop-k-preserved c).Start in
    let here = row-next a.t c.loop-k.k all (omega arith) c.row_of.ensures.listed in
    sym (said_here a.row c.row_of.result _ _ c.loop-k.mask here c.with_said-mask.ensures) ∙ c.loop-k.invariant

pub returns : goal.returns
returns c =
    let a = c.args in
    let all = c.row_count-k-end.ensures ∙ counted (goal.at.returns c).Start in
    sym (said-none a.row _ c.loop-k.mask (row-end a.t c.loop-k.k all (omega arith))) ∙ c.loop-k.invariant
