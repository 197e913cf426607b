-- `write_listing::put_set` meets its contract.
use Rattle.write_pen.proofs.Laws.{wrote_then, wrote_as}
use Rattle.write_listing.proofs.Fields.{set-part}
use Rattle.write_listing.proofs.put_set.Goals as goal

pub returns : goal.returns
returns c =
    let a = c.args in
    wrote_as (wrote_then c.put_digits-p.ensures c.put_byte.ensures) (set-part a.n a.m)
