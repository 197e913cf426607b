-- `write_widths::add_width_line` meets its contract: the line fits the buffer that it is written to.
use Prim.Native.Nat.{◌≤◌}
use native.Mathlib.Omega.{arith}
use lib.ListN.{length}
use Rattle.rules.specs.Widths.{width_line}
use Rattle.write_widths.proofs.Same.{line-length}
use Rattle.write_parts.proofs.Lines.{line-ends, line-long, line-added}
use Rattle.write_widths.proofs.add_width_line.Goals.{Start}
use Rattle.write_widths.proofs.add_width_line.Goals as goal

fits : (c : Start) → let a = c.args in length (width_line a.width a.unmet a.covered) ≤ 47
fits c = let a = c.args in line-length 19 19 a.width a.unmet a.covered (omega arith) (omega arith)

pub slice_bounds-line-end : goal.slice_bounds-line-end
slice_bounds-line-end c = line-ends c.put_width_line-end.ensures (fits (goal.at.slice_bounds-line-end c).Start)

pub slice_bounds-add_line-end : goal.slice_bounds-add_line-end
slice_bounds-add_line-end c = line-long c.put_width_line-end.ensures (fits (goal.at.slice_bounds-add_line-end c).Start)

pub returns : goal.returns
returns c =
    line-added c.put_width_line-end.ensures (fits (goal.at.returns c).Start) _ c.args.part c.args.out.now c.add_line.ensures
