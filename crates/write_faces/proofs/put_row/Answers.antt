-- `write_faces::put_row` meets its contract.
use Rattle.write_pen.proofs.Laws.{wrote_then, wrote_as}
use Rattle.write_faces.proofs.Rows.{row-parts}
use Rattle.write_faces.proofs.put_row.Goals as goal

pub returns : goal.returns
returns c =
    let s = c.args in
    wrote_as
    (wrote_then c.put_pattern-p.ensures
    (wrote_then c.put_face-q.ensures
    (wrote_then c.put_byte-r.ensures
    (wrote_then c.put_next-s.ensures
    (wrote_then c.put_pattern-t.ensures c.put_byte.ensures)))))
    (row-parts s.head s.bits.now s.row)
