-- `write_listing::add_head` meets its contract: the line fits the bytes that it is written to.
use Prim.Native.Nat.{◌≤◌}
use native.Mathlib.Omega.{arith}
use lib.ListN.{length}
use Rattle.rules.proofs.ListingLength.{head-length}
use Rattle.write_parts.proofs.Lines.{line-ends, line-long, line-added}
use Rattle.write_listing.specs.Listings.{head_line_text}
use Rattle.write_listing.proofs.add_head.Goals.{Start}
use Rattle.write_listing.proofs.add_head.Goals as goal

fits : (c : Start) → length (head_line_text c.args.head) ≤ 89
unfolding head_line_text
fits c = head-length 19 c.args.head (omega arith) (omega arith) (omega arith) (omega arith)

pub slice_bounds-line-end : goal.slice_bounds-line-end
slice_bounds-line-end c = line-ends c.put_head-end.ensures (fits (goal.at.slice_bounds-line-end c).Start)

pub slice_bounds-add_line-end : goal.slice_bounds-add_line-end
slice_bounds-add_line-end c = line-long c.put_head-end.ensures (fits (goal.at.slice_bounds-add_line-end c).Start)

pub returns : goal.returns
returns c =
    line-added c.put_head-end.ensures (fits (goal.at.returns c).Start) _ c.args.part c.args.out.now c.add_line.ensures
