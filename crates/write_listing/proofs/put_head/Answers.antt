-- `write_listing::put_head` meets its contract.
use Rattle.write_pen.proofs.Laws.{wrote_then, wrote_as}
use Rattle.write_listing.proofs.Fields.{head-fields}
use Rattle.write_listing.proofs.put_head.Goals as goal

pub returns : goal.returns
returns c =
    let a = c.args in
    wrote_as
    (wrote_then c.put_bytes-p.ensures
    (wrote_then c.put_field-q.ensures
    (wrote_then c.put_field-r.ensures
    (wrote_then c.put_field-s.ensures c.put_width.ensures))))
    (head-fields a.head)
