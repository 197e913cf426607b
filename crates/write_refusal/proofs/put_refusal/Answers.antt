-- `write_refusal::put_refusal` meets its contract.
use Rattle.write_pen.proofs.Laws.{wrote_then, wrote_as}
use Rattle.write_refusal.proofs.Refused.{refused-fields}
use Rattle.write_refusal.proofs.put_refusal.Goals as goal

pub returns : goal.returns
returns c =
    wrote_as
    (wrote_then c.put_bytes-p.ensures (wrote_then c.put_field-q.ensures c.put_field.ensures))
    (refused-fields _ _ c.number_of.ensures)
