-- `move_families::fill_family` meets its contract.
use Rattle.move_families.proofs.Filling.{by-family}
use Rattle.move_families.proofs.fill_family.Goals as goal

pub returns : goal.returns
returns c =
    let a = c.args in
    let v = c.turned-other.ensures in
    by-family a.all a.flip a.out a.b _ _ _ _ a.t.now _ _ c.side_of-x.ensures c.without_of-o.ensures c.worth_of.ensures c.worth_of-2.ensures
    c.put_half.ensures (rw (v.0, v.1, v.2, v.3) at c.put_half-2.ensures)
