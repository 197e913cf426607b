-- `write_cover::add_row` meets its contract: the line fits the buffer that it is written to.
use Prim.Native.Nat.{◌≤◌}
use lib.ListN.{length}
use Rattle.write_faces.specs.Faces.{row_text}
use Rattle.write_cover.proofs.Length.{row-few}
use Rattle.write_parts.proofs.Lines.{line-ends, line-long, line-added}
use Rattle.write_cover.proofs.add_row.Goals.{Start}
use Rattle.write_cover.proofs.add_row.Goals as goal

fits : (c : Start) → let a = c.args in length (row_text a.head a.bits.now a.row) ≤ 178
fits c = let a = c.args in row-few a.head a.bits.now a.row c.requires.0 c.requires.1

pub slice_bounds-line-end : goal.slice_bounds-line-end
slice_bounds-line-end c = line-ends c.put_row-end.ensures (fits (goal.at.slice_bounds-line-end c).Start)

pub slice_bounds-add_line-end : goal.slice_bounds-add_line-end
slice_bounds-add_line-end c = line-long c.put_row-end.ensures (fits (goal.at.slice_bounds-add_line-end c).Start)

pub returns : goal.returns
returns c =
    line-added c.put_row-end.ensures (fits (goal.at.returns c).Start) _ c.args.part c.args.out.now c.add_line.ensures
