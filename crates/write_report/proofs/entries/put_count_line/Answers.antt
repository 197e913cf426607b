-- `write_report::entries::put_count_line` meets its contract.
use Rattle.write_pen.proofs.Laws.{wrote_then, wrote_as}
use Rattle.write_report.proofs.Fields.{count-fields}
use Rattle.write_report.proofs.entries.put_count_line.Goals as goal

pub returns : goal.returns
returns c =
    wrote_as
    (wrote_then c.put_bytes-p.ensures
    (wrote_then c.put_field-q.ensures
    (wrote_then c.put_field-r.ensures
    (wrote_then c.put_field-s.ensures
    (wrote_then c.put_field-t.ensures c.put_field.ensures)))))
    (count-fields _ _ _ _ _)
