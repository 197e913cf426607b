-- `run_symbolic::told_at` meets its contract: the rows that are still to come tell the rest.
use mathlib.Core.Path.{◌≡◌, sym, ◌∙◌}
use native.Mathlib.Omega.{arith}
use lib.ListN.{length}
use borrow.Author.Rules.{rules}
use Rattle.rules.specs.Listing.{all_rows}
use Rattle.write_rows.specs.Rows.{row_count}
use Rattle.write_rows.proofs.Counted.{count-all, row-next, row-end}
use Rattle.run_symbolic.proofs.Steps.{told_here, told_none}
use Rattle.run_symbolic.proofs.told_at.Goals.{Start}
use Rattle.run_symbolic.proofs.told_at.Goals as goal

counted : (c : Start) → row_count c.args.t.head c.args.t.rows ≡ length (all_rows c.args.t)
counted c = count-all c.args.t (search rules) (search rules)

pub loop-k-preserved : goal.loop-k-preserved
loop-k-preserved c =
    let a = c.args in
    let all = c.row_count-k-end.ensures ∙ counted (goal.at.loop-k-preserved c).Start in
    let here = row-next a.t c.loop-k.k all (omega arith) c.row_of.ensures.listed in
    sym (told_here a.t.head a.x a.s c.loop-k.told c.row_of.result _ _ here c.told_with-told.ensures) ∙ c.loop-k.invariant

pub returns : goal.returns
returns c =
    let a = c.args in
    let all = c.row_count-k-end.ensures ∙ counted (goal.at.returns c).Start in
    sym (told_none a.t.head a.x a.s c.loop-k.told _ (row-end a.t c.loop-k.k all (omega arith))) ∙ c.loop-k.invariant
