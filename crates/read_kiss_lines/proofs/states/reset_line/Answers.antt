-- `states::reset_line` meets its contract.
use native.Mathlib.Omega.{arith}
use Rattle.read_kiss_lines.proofs.Pieces.{end-within}
use Rattle.read_kiss_lines.proofs.states.reset_line.Goals as goal

pub overflow_add-start : goal.overflow_add-start
overflow_add-start c = omega (arith, c.cut-start.ensures, end-within 32 c.args.l.now 0)
