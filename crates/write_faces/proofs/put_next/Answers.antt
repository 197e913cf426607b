-- `write_faces::put_next` meets its contract.
use Rattle.write_pen.proofs.Laws.{wrote_as}
use Rattle.write_pen.proofs.Values.{values-any}
use Rattle.write_faces.specs.Faces.{next_text}
use Rattle.write_faces.proofs.put_next.Goals as goal

pub returns : goal.returns
unfolding next_text
returns c = let s = c.args in wrote_as c.put_values.ensures (values-any s.next s.bits.now)
