-- `run_print::add_shown` meets its contract: the line fits the buffer that it is written to.
use Prim.Native.Nat.{◌≤◌}
use native.Mathlib.Omega.{arith}
use lib.ListN.{length}
use Rattle.run_print.specs.Lines.{step_text}
use Rattle.run_print.proofs.Fields.{step-length}
use Rattle.write_parts.proofs.Lines.{line-ends, line-long, line-added}
use Rattle.run_print.proofs.add_shown.Goals.{Start}
use Rattle.run_print.proofs.add_shown.Goals as goal

fits : (c : Start) → let a = c.args in length (step_text a.state a.width a.code a.outputs a.n) ≤ 122
fits c = let a = c.args in step-length 19 a.state a.width a.code a.outputs a.n (omega arith) c.requires.0 c.requires.1

pub slice_bounds-line-end : goal.slice_bounds-line-end
slice_bounds-line-end c = line-ends c.put_step-end.ensures (fits (goal.at.slice_bounds-line-end c).Start)

pub slice_bounds-add_line-end : goal.slice_bounds-add_line-end
slice_bounds-add_line-end c = line-long c.put_step-end.ensures (fits (goal.at.slice_bounds-add_line-end c).Start)

pub returns : goal.returns
returns c =
    line-added c.put_step-end.ensures (fits (goal.at.returns c).Start) _ c.args.part c.args.out.now c.add_line.ensures
