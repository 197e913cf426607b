-- `read_pieces::field_count` meets its contract: the fields met so far, with those from i on, are one more than all.
use native.Mathlib.Omega.{arith}
use Rattle.rules.specs.Text.{space}
use Rattle.read_pieces.proofs.Laws.{count-here, count-on, count_past}
use Rattle.read_pieces.proofs.field_count.Goals.{then-x-eq32, else-x-eq32}
use Rattle.read_pieces.proofs.field_count.Goals as goal

pub loop-x-preserved : goal.loop-x-preserved
loop-x-preserved c =
    let l = c.loop-x in
    let s = c.args.l.now in
    elim c.if-x-eq32.branch [
      | then-x-eq32 w ↦ omega (arith, count-here space s l.x-index (omega arith) w.if-x-eq32.true)
      | else-x-eq32 w ↦ omega (arith, count-on space s l.x-index (omega arith) w.if-x-eq32.false)
    ]

pub returns : goal.returns
returns c = omega (arith, count_past space c.args.l.now c.loop-x.x-index (omega arith))
