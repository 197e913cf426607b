-- `write_report::add_state` meets its contract: the line fits the buffer that it is written to.
use Prim.Native.Nat.{◌≤◌}
use native.Mathlib.Omega.{arith}
use lib.ListN.{length}
use Rattle.rules.specs.Report.{state_line}
use Rattle.write_report.proofs.Length.{state-length}
use Rattle.write_parts.proofs.Lines.{line-ends, line-long, line-added}
use Rattle.write_report.proofs.add_state.Goals.{Start}
use Rattle.write_report.proofs.add_state.Goals as goal

fits : (c : Start) → let a = c.args in length (state_line a.bits.now a.s) ≤ 89
fits c = let a = c.args in state-length 19 a.bits.now a.s c.requires (omega arith)

pub slice_bounds-line-end : goal.slice_bounds-line-end
slice_bounds-line-end c = line-ends c.put_state_line-end.ensures (fits (goal.at.slice_bounds-line-end c).Start)

pub slice_bounds-add_line-end : goal.slice_bounds-add_line-end
slice_bounds-add_line-end c = line-long c.put_state_line-end.ensures (fits (goal.at.slice_bounds-add_line-end c).Start)

pub returns : goal.returns
returns c =
    line-added c.put_state_line-end.ensures (fits (goal.at.returns c).Start) _ c.args.part c.args.out.now c.add_line.ensures
