-- `write_names::put_names` meets its contract.
use Rattle.read_names.specs.Names.{names_in}
use Rattle.write_pen.proofs.Laws.{wrote_then, wrote_as}
use Rattle.write_names.proofs.Lines.{with-end}
use Rattle.write_names.proofs.put_names.Goals as goal

pub returns : goal.returns
returns c =
    let a = c.args in
    wrote_as (wrote_then c.put_states-end.ensures c.put_bytes.ensures) (with-end (names_in a.text.now a.names))
