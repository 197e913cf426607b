-- `judge_rows::put_listing` meets its contract: the rows that are still to come make the rest.
use mathlib.Core.Path.{◌≡◌, ◌∙◌}
use native.Mathlib.Omega.{arith}
use borrow.Author.Rules.{rules}
use lib.ListN.{length}
use Rattle.rules.specs.Limits.{most_states, most_rows}
use Rattle.write_rows.proofs.Counted.{state-few, all-few, row-given, row-none}
use Rattle.judge_rows.proofs.Laws.{listing-next, listing-over}
use Rattle.judge_rows.proofs.put_listing.Goals.{Start}
use Rattle.judge_rows.proofs.put_listing.Goals as goal

-- the lengths of the tables
table-long : (c : Start) → length c.args.t.table ≡ most_rows
table-long c = search rules

said-long : (c : Start) → length c.args.t.said ≡ most_states
said-long c = search rules

pub offset_bounds-t-state : goal.offset_bounds-t-state
offset_bounds-t-state c =
    record { fits = omega (arith, c.state_at-state.ensures, state-few c.least-n.result c.loop-k.k) }

pub bounds-t-state : goal.bounds-t-state
bounds-t-state c =
    omega (arith, c.state_at-state.ensures, state-few c.least-n.result c.loop-k.k)

pub put_firing-requires : goal.put_firing-requires
put_firing-requires c =
    omega (arith, all-few c.args.t (table-long (goal.at.put_firing-requires c).Start) (said-long (goal.at.put_firing-requires c).Start) c.least-n.ensures c.row_count-all.ensures, c.least-n.ensures, c.loop-k-test.true)

pub put_saying-requires : goal.put_saying-requires
put_saying-requires c =
    omega (arith, all-few c.args.t (table-long (goal.at.put_saying-requires c).Start) (said-long (goal.at.put_saying-requires c).Start) c.least-n.ensures c.row_count-all.ensures, c.least-n.ensures, c.loop-k-test.true)

pub loop-k-preserved : goal.loop-k-preserved
loop-k-preserved c =
    let here = row-given c.args.t (table-long (goal.at.loop-k-preserved c).Start) (said-long (goal.at.loop-k-preserved c).Start) c.least-n.ensures c.row_count-all.ensures c.loop-k.k c.loop-k-test.true c.least-place.ensures c.state_at-state.ensures c.row_at-row.ensures in
    listing-next c.args.codes c.loop-k.k c.row_at-row.result _ _ c.loop-k.fires c.loop-k.says here c.firing_of.ensures c.saying_of.ensures c.put_firing.ensures c.put_saying.ensures ∙ c.loop-k.invariant

pub returns : goal.returns
returns c =
    let none = row-none c.args.t (table-long (goal.at.returns c).Start) (said-long (goal.at.returns c).Start) c.least-n.ensures c.row_count-all.ensures c.loop-k.k (omega (arith, c.loop-k-test.false)) in
    listing-over c.args.codes c.loop-k.k _ _ none ∙ c.loop-k.invariant
