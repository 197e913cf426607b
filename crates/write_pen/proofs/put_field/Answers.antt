-- `write_pen::put_field` meets its contract.
use Rattle.write_pen.proofs.Laws.{wrote_then}
use Rattle.write_pen.proofs.put_field.Goals as goal

pub returns : goal.returns
returns c = wrote_then c.put_number-to.ensures c.put_byte.ensures
