-- `ending::cut_table` meets its contract: the rows below i are cut.
use Rattle.read_kiss.proofs.Cutting.{cut-whole}
use mathlib.Core.Path.{sym, ◌∙◌}
use native.Mathlib.Omega.{arith}
use Rattle.read_kiss.proofs.ending.cut_table.Goals as goal

pub returns : goal.returns
returns c =
    let l = c.loop-i in
    let a = c.args in
    cut-whole a.n a.table l.next (l.invariant.3 ∙ sym l.invariant.2) (λ j h. l.invariant.4 j (omega arith))
