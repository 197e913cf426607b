-- `write_report::add_counts` meets its contract: the line fits the buffer that it is written to.
use Prim.Native.Nat.{◌≤◌}
use native.Mathlib.Omega.{arith}
use lib.ListN.{length}
use Rattle.rules.specs.Report.{count_line}
use Rattle.write_report.proofs.Length.{count-length}
use Rattle.write_parts.proofs.Lines.{line-ends, line-long, line-added}
use Rattle.write_report.proofs.add_counts.Goals.{Start}
use Rattle.write_report.proofs.add_counts.Goals as goal

fits : (c : Start) → let a = c.args in length (count_line a.c.bits a.c.asked a.c.unmet a.c.passes a.c.looks) ≤ 108
fits c = let a = c.args in count-length 19 19 a.c.bits a.c.asked a.c.unmet a.c.passes a.c.looks (omega arith) (omega arith) (omega arith) (omega arith) (omega arith)

pub slice_bounds-line-end : goal.slice_bounds-line-end
slice_bounds-line-end c = line-ends c.put_count_line-end.ensures (fits (goal.at.slice_bounds-line-end c).Start)

pub slice_bounds-add_line-end : goal.slice_bounds-add_line-end
slice_bounds-add_line-end c = line-long c.put_count_line-end.ensures (fits (goal.at.slice_bounds-add_line-end c).Start)

pub returns : goal.returns
returns c =
    line-added c.put_count_line-end.ensures (fits (goal.at.returns c).Start) _ c.args.part c.args.out.now c.add_line.ensures
