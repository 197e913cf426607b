-- `write_faces::put_face` meets its contract.
use mathlib.Core.Path.{ap, ◌∙◌}
use native.Mathlib.Omega.{arith}
use lib.Bits.{bit_and}
use Rattle.write_pen.proofs.Laws.{wrote_as}
use Rattle.write_faces.proofs.Masks.{below-least}
use Rattle.write_faces.proofs.Rows.{values-face}
use Rattle.write_faces.proofs.put_face.Goals as goal

pub returns : goal.returns
returns c =
    let s = c.args in
    let below = ap (bit_and s.g) c.everyone_of.ensures ∙ below-least s.n s.g (omega arith) in
    wrote_as c.put_values.ensures (values-face s.n s.g below s.bits.now)
