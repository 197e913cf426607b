-- `row::state_pieces` meets its contract.
use Rattle.read_kiss_lines.proofs.Pieces.{pieces-by}
use Rattle.read_kiss_lines.proofs.Pieces.{end-within}
use Prim.Native.Nat.{◌+◌}
use native.Mathlib.Omega.{arith}
use Rattle.read_kiss_lines.proofs.row.state_pieces.Goals as goal

pub overflow_add-present : goal.overflow_add-present
overflow_add-present c = omega (arith, c.cut-present.ensures, end-within 32 c.args.l.now 0)

pub overflow_add-next : goal.overflow_add-next
overflow_add-next c =
    let l = c.args.l.now in
    omega (arith, c.cut-present.ensures, end-within 32 l 0, c.cut-between.ensures, end-within 32 l (c.cut-present.result + 1))

pub returns : goal.returns
returns c = pieces-by _ c.cut-present.ensures c.cut-between.ensures c.cut.ensures
