-- `write_report::entries::put_met_line` meets its contract.
use Rattle.write_pen.proofs.Laws.{wrote_then, wrote_as}
use Rattle.write_report.proofs.Fields.{met-fields}
use Rattle.write_report.proofs.entries.put_met_line.Goals as goal

pub returns : goal.returns
returns c =
    let a = c.args in
    wrote_as (wrote_then c.put_bytes-p.ensures (wrote_then c.put_field-q.ensures c.put_field.ensures)) (met-fields a.number a.bit)
