-- `write_cover::add_count` meets its contract: the line fits the buffer that it is written to.
use Prim.Native.Nat.{◌≤◌}
use native.Mathlib.Omega.{arith}
use borrow.Author.Rules.{rules}
use lib.ListN.{length}
use Rattle.rules.specs.Cover.{counted_line}
use Rattle.write_pen.proofs.Laws.{wrote_then}
use Rattle.write_parts.proofs.Lines.{line-ends, line-long, line-added}
use Rattle.write_cover.proofs.Length.{counted-length}
use Rattle.write_cover.proofs.add_count.Goals.{After-put_bytes-arg-1}
use Rattle.write_cover.proofs.add_count.Goals as goal

fits : (c : After-put_bytes-arg-1) → let a = c.args in length (counted_line a.mark.now a.v) ≤ 24
fits c = let a = c.args in counted-length 19 a.mark.now a.v (search rules) (omega arith)

-- the mark, and its number behind it
pub slice_bounds-line-end : goal.slice_bounds-line-end
slice_bounds-line-end c =
    line-ends (wrote_then c.put_bytes-at.ensures c.put_field-end.ensures) (fits (goal.at.slice_bounds-line-end c).After-put_bytes-arg-1)

pub slice_bounds-add_line-end : goal.slice_bounds-add_line-end
slice_bounds-add_line-end c =
    line-long (wrote_then c.put_bytes-at.ensures c.put_field-end.ensures) (fits (goal.at.slice_bounds-add_line-end c).After-put_bytes-arg-1)

pub returns : goal.returns
returns c =
    line-added (wrote_then c.put_bytes-at.ensures c.put_field-end.ensures) (fits (goal.at.returns c).After-put_bytes-arg-1) _ c.args.part c.args.out.now c.add_line.ensures
