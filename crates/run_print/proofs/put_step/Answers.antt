-- `run_print::put_step` meets its contract.
use Rattle.write_pen.proofs.Laws.{wrote_then, wrote_as}
use Rattle.run_print.proofs.Fields.{step-fields}
use Rattle.run_print.proofs.put_step.Goals as goal

pub returns : goal.returns
returns c =
    let a = c.args in
    wrote_as
    (wrote_then c.put_bytes-p.ensures (wrote_then c.put_field-q.ensures (wrote_then c.put_code-r.ensures (wrote_then c.put_byte-s.ensures (wrote_then c.put_pattern-t.ensures c.put_byte.ensures)))))
    (step-fields a.state a.width a.code a.outputs a.n)
