-- `write_report::entries::put_unmet_line` meets its contract.
use Rattle.write_pen.proofs.Laws.{wrote_then}
use Rattle.rules.specs.Report.{unmet_line}
use Rattle.write_report.proofs.entries.put_unmet_line.Goals as goal

pub returns : goal.returns
unfolding unmet_line
returns c = wrote_then c.put_bytes-p.ensures c.put_field.ensures
