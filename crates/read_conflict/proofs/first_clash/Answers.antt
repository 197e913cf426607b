-- `read_conflict::first_clash` meets its contract: what is still to be scanned decides as all pairs do.
use Rattle.std.specs.Prelude.{Err}
use mathlib.Core.Path.{sym, ap, ◌∙◌}
use native.Mathlib.Omega.{arith}
use Rattle.read_conflict.proofs.Scan.{with-here, with_none, conflict-here, conflict-none}
use Rattle.read_conflict.proofs.first_clash.Goals as goal

pub loop-j-preserved : goal.loop-j-preserved
loop-j-preserved c =
    let l = c.loop-j in
    let p = c.pairs in
    let a = c.args in
    let s = with-here a.rows a.table _ p.invariant.0 _ l.j (omega arith) (sym c.clashes.ensures ∙ c.if-clashes.false) in
    (l.invariant.0, sym s ∙ l.invariant.1)

pub pairs-preserved : goal.pairs-preserved
pairs-preserved c =
    let l = c.loop-j in
    let p = c.pairs in
    let a = c.args in
    let n = sym l.invariant.1 ∙ with_none a.rows a.table _ p.invariant.0 _ l.j (omega arith) in
    (p.invariant.0, p.invariant.1, l.invariant.0, sym (conflict-here a.rows a.table _ p.invariant.0 p.i (omega arith) n) ∙ p.invariant.3)

pub returns-after-pairs : goal.returns-after-pairs
returns-after-pairs c =
    let p = c.pairs in
    p.invariant.2 ∙ sym (conflict-none c.args.rows c.args.table _ p.invariant.0 p.i (omega arith)) ∙ p.invariant.3

pub returns-then-clashes : goal.returns-then-clashes
returns-then-clashes c =
    let l = c.loop-j in
    let p = c.pairs in
    let a = c.args in
    let h = sym l.invariant.1 ∙ with-here a.rows a.table _ p.invariant.0 _ l.j (omega arith) (sym c.clashes.ensures ∙ c.if-clashes.true) in
    ap Err c.at.ensures ∙ sym (conflict-here a.rows a.table _ p.invariant.0 p.i (omega arith) h) ∙ p.invariant.3
