-- `write_faces::put_pattern` meets its contract. The loop's invariant: what is written is the first j characters.
use mathlib.Core.Path.{sym}
use native.Mathlib.Omega.{arith}
use Rattle.write_pen.proofs.Laws.{wrote_none, wrote_then, wrote_as}
use Rattle.write_faces.proofs.Rows.{pattern-none, pattern-one}
use Rattle.write_faces.proofs.put_pattern.Goals as goal

pub loop-j-init : goal.loop-j-init
loop-j-init c = wrote_as (wrote_none _ _ (omega arith) (omega arith)) (sym (pattern-none _))

pub loop-j-preserved : goal.loop-j-preserved
loop-j-preserved c =
    let more = pattern-one c.args.p c.loop-j.j c.pattern_byte.ensures in
    wrote_as (wrote_then c.loop-j.invariant c.put_byte-to.ensures) (sym more)
