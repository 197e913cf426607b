-- `read_pieces::field` meets its contract: as many fields on as are left, the line from `at` on has field k of the line.
use mathlib.Core.Path.{◌≡◌, sym, ap, ◌∙◌}
use Prim.Native.Nat.{suc, ◌+◌, ◌-◌}
use native.Mathlib.Omega.{arith}
use lib.ListN.{drop}
use Rattle.rules.specs.Text.{space, field_at}
use Rattle.read_pieces.proofs.Laws.{cut_of, piece-later}
use Rattle.read_pieces.proofs.field.Goals as goal

pub loop-before-init : goal.loop-before-init
loop-before-init c =
    let k : c.args.k - 0 ≡ c.args.k = omega arith in
    (cut_of _ _ 0 (omega arith) c.cut-end.ensures, ap (field_at c.args.l.now) k)

pub loop-before-preserved : goal.loop-before-preserved
loop-before-preserved c =
    let l = c.loop-before in
    let a = c.args in
    let left = a.k - (l._before + 1) in
    let k : suc left ≡ a.k - l._before = omega arith in
    let s = piece-later space a.l.now l.at l.end left l.invariant.0 (omega arith) in
    (cut_of _ _ (l.end + 1) (omega arith) c.cut-end-in-loop-before.ensures, sym s ∙ ap (field_at (drop l.at a.l.now)) k ∙ l.invariant.1)
