-- `write_listing::add_rows` meets its contract. The loop's invariant: what is added is the lines of the rows passed.
use mathlib.Core.Path.{◌≡◌, sym, ap, ◌∙◌}
use mathlib.Core.List.{List}
use Prim.Native.Nat.{ℕ}
use borrow.Author.Rules.{rules}
use lib.ListN.{length, take}
use lib.Seq.{take_all}
use Rattle.sets.proofs.Places.{take-most}
use Rattle.rules.specs.Limits.{most_rows}
use Rattle.rules.specs.declared.Row.{Row}
use Rattle.std.proofs.lemmas.List.{take_more}
use Rattle.write_parts.specs.Parts.{added_all}
use Rattle.write_parts.proofs.Adding.{all_none, all_then}
use Rattle.write_listing.specs.Listings.{row_lines}
use Rattle.write_listing.proofs.Whole.{rows_none, rows_more}
use Rattle.write_listing.proofs.add_rows.Goals.{Start}
use Rattle.write_listing.proofs.add_rows.Goals as goal

table-long : (c : Start) → length c.args.t.table ≡ most_rows
table-long c = search rules

pub loop-row-init : goal.loop-row-init
loop-row-init c =
    let a = c.args in
    sym (ap (λ (ls : List (List ℕ)). added_all ls (a.part, a.out.now)) (rows_none a.t.head) ∙ all_none (a.part, a.out.now))

pub loop-row-preserved : goal.loop-row-preserved
loop-row-preserved c =
    let a = c.args in
    let items = take c.least-n.result a.t.table in
    all_then (row_lines a.t.head (take c.loop-row.row-index items)) _ (a.part, a.out.now) (c.loop-row.to, c.loop-row.out) _ c.loop-row.invariant c.add_row-to.ensures
    ∙ ap (λ (ls : List (List ℕ)). added_all ls (a.part, a.out.now))
    (sym
    (ap (row_lines a.t.head) (take_more items c.loop-row.row-index _ c.loop-row-test.true)
    ∙ rows_more a.t.head (take c.loop-row.row-index items) _))

pub returns : goal.returns
returns c =
    let a = c.args in
    c.loop-row.invariant
    ∙ ap (λ (rs : List Row). added_all (row_lines a.t.head rs) (a.part, a.out.now))
    (take_all c.loop-row.row-index (take c.least-n.result a.t.table) c.loop-row-test.false
    ∙ ap (λ (n : ℕ). take n a.t.table) c.least-n.ensures
    ∙ take-most a.t.rows most_rows a.t.table (table-long (goal.at.returns c).Start))
