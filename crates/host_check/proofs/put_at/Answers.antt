-- `host_check::put_at` meets its contract, field by field.
use Rattle.write_pen.proofs.Laws.{wrote_then, wrote_as}
use Rattle.host_check.proofs.Lines.{at_fields}
use Rattle.host_check.proofs.put_at.Goals as goal

pub returns : goal.returns
returns c =
    wrote_as (wrote_then c.put_bytes-p.ensures (wrote_then c.put_field-q.ensures c.put_field.ensures)) (at_fields _)
