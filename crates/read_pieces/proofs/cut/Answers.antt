-- `read_pieces::cut` meets its contract: the piece's end, seen from i, is the end seen from the start.
use mathlib.Core.Path.{sym, ◌∙◌}
use native.Mathlib.Omega.{arith}
use Rattle.read_pieces.proofs.Laws.{end-here, end_on, end-past}
use Rattle.read_pieces.proofs.cut.Goals as goal

pub returns-then-l-i : goal.returns-then-l-i
returns-then-l-i c =
    let l = c.loop-i in
    sym (end-here _ _ l.i (omega arith) c.if-l-i.true) ∙ l.invariant

pub loop-i-preserved : goal.loop-i-preserved
loop-i-preserved c =
    let l = c.loop-i in
    sym (end_on _ _ l.i (omega arith) c.if-l-i.false) ∙ l.invariant

pub returns : goal.returns
returns c =
    let l = c.loop-i in
    let a = c.args in
    grind (arith, sym (end-past _ _ l.i (omega arith)) ∙ l.invariant, end-past a.q a.l.now a.at, l.auto.i-end, c.max.ensures)
