-- `write_listing::put_width` meets its contract.
use Rattle.write_pen.proofs.Laws.{wrote_then, wrote_as}
use Rattle.write_listing.proofs.Fields.{width-kept, width-plain}
use Rattle.write_listing.proofs.put_width.Goals as goal

pub returns-then-keeps : goal.returns-then-keeps
returns-then-keeps c =
    let a = c.args in
    wrote_as (wrote_then c.put_field-p.ensures c.put_bytes.ensures) (width-kept a.width a.keeps c.if-keeps.true)

pub returns-else-keeps : goal.returns-else-keeps
returns-else-keeps c =
    let a = c.args in
    wrote_as c.put_field.ensures (width-plain a.width a.keeps c.if-keeps.false)
