-- `write_listing::add_row` meets its contract: the line fits the bytes that it is written to.
use Prim.Native.Nat.{◌≤◌}
use lib.ListN.{length}
use Rattle.rules.proofs.ListingLength.{row-few}
use Rattle.write_parts.proofs.Lines.{line-ends, line-long, line-added}
use Rattle.write_listing.specs.Listings.{row_line_text}
use Rattle.write_listing.proofs.add_row.Goals.{Start}
use Rattle.write_listing.proofs.add_row.Goals as goal

fits : (c : Start) → length (row_line_text c.args.head c.args.row) ≤ 183
unfolding row_line_text
fits c = row-few c.args.head c.args.row c.requires.states c.requires.inputs c.requires.outputs

pub slice_bounds-line-end : goal.slice_bounds-line-end
slice_bounds-line-end c = line-ends c.put_row-end.ensures (fits (goal.at.slice_bounds-line-end c).Start)

pub slice_bounds-add_line-end : goal.slice_bounds-add_line-end
slice_bounds-add_line-end c = line-long c.put_row-end.ensures (fits (goal.at.slice_bounds-add_line-end c).Start)

pub returns : goal.returns
returns c =
    line-added c.put_row-end.ensures (fits (goal.at.returns c).Start) _ c.args.part c.args.out.now c.add_line.ensures
