-- `write_listing::put_row` meets its contract.
use Rattle.write_pen.proofs.Laws.{wrote_then, wrote_as}
use Rattle.write_listing.proofs.Fields.{row-fields}
use Rattle.write_listing.proofs.put_row.Goals as goal

pub returns : goal.returns
returns c =
    let a = c.args in
    wrote_as
    (wrote_then c.put_bytes-p.ensures
    (wrote_then c.put_pattern-q.ensures
    (wrote_then c.put_byte-r.ensures
    (wrote_then c.put_set-s.ensures
    (wrote_then c.put_set-t.ensures
    (wrote_then c.put_pattern-u.ensures c.put_byte.ensures))))))
    (row-fields a.head a.row)
