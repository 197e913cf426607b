-- `write_report::entries::put_state_line` meets its contract.
use Rattle.write_pen.proofs.Laws.{wrote_then, wrote_as}
use Rattle.write_report.proofs.Fields.{state-fields}
use Rattle.write_report.proofs.entries.put_state_line.Goals as goal

pub returns : goal.returns
returns c =
    wrote_as
    (wrote_then c.put_bytes-p.ensures (wrote_then c.put_field-q.ensures (wrote_then c.put_code-r.ensures c.put_byte.ensures)))
    (state-fields c.args.bits.now c.args.s)
