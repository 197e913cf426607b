-- `host_check::put_unmet` meets its contract.
use Rattle.rules.specs.Report.{unmet_line}
use Rattle.write_pen.proofs.Laws.{wrote_then}
use Rattle.host_check.proofs.put_unmet.Goals as goal

pub returns : goal.returns
unfolding unmet_line
returns c = wrote_then c.put_bytes-p.ensures c.put_field.ensures
