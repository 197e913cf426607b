-- `write_names::put_line` meets its contract.
use Rattle.write_pen.proofs.Laws.{wrote_then, wrote_as}
use Rattle.write_names.proofs.Lines.{name-fields}
use Rattle.write_names.proofs.put_line.Goals as goal

pub returns : goal.returns
returns c =
    let a = c.args in
    wrote_as
    (wrote_then c.put_bytes-p.ensures (wrote_then c.put_field-q.ensures (wrote_then c.put_bytes-r.ensures c.put_byte.ensures)))
    (name-fields a.s a.name.now)
