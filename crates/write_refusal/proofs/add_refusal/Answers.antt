-- `write_refusal::add_refusal` meets its contract: the line fits the buffer that it is written to.
use Prim.Native.Nat.{◌≤◌}
use native.Mathlib.Omega.{arith}
use lib.ListN.{length}
use Rattle.rules.specs.Answers.{refuses, printed}
use Rattle.write_refusal.proofs.Refused.{refusal-length}
use Rattle.write_parts.proofs.Lines.{line-ends, line-long, line-added}
use Rattle.write_refusal.proofs.add_refusal.Goals.{Start}
use Rattle.write_refusal.proofs.add_refusal.Goals as goal

fits : (c : Start) → let a = c.args in length (printed (refuses a.refusal a.at)) ≤ 27
fits c = let a = c.args in refusal-length 19 a.refusal a.at (omega arith)

pub slice_bounds-line-end : goal.slice_bounds-line-end
slice_bounds-line-end c = line-ends c.put_refusal-end.ensures (fits (goal.at.slice_bounds-line-end c).Start)

pub slice_bounds-add_line-end : goal.slice_bounds-add_line-end
slice_bounds-add_line-end c = line-long c.put_refusal-end.ensures (fits (goal.at.slice_bounds-add_line-end c).Start)

pub returns : goal.returns
returns c =
    line-added c.put_refusal-end.ensures (fits (goal.at.returns c).Start) _ c.args.part c.args.out.now c.add_line.ensures
