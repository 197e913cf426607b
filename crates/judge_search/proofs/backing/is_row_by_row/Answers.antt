-- `judge_search::backing::is_row_by_row` meets its contract: one test behind the other.
use Rattle.judge_search.proofs.Backed.{ones-added, dashes-added, next-added, next-loose, ones-lost, next-lost, clash-decides}
use Rattle.judge_search.proofs.backing.is_row_by_row.Goals as goal

pub returns-then-adds : goal.returns-then-adds
returns-then-adds c =
    let a = c.args in
    ones-added a.fires.now a.says.now a.inputs c.adds.ensures c.if-adds.true

pub returns-then-adds-2 : goal.returns-then-adds-2
returns-then-adds-2 c =
    let a = c.args in
    dashes-added a.fires.now a.says.now a.inputs c.adds.ensures c.if-adds.false c.adds-2.ensures c.if-adds-2.true

pub returns-then-adds-3 : goal.returns-then-adds-3
returns-then-adds-3 c =
    let a = c.args in
    next-added a.fires.now a.says.now a.inputs c.adds.ensures c.if-adds.false c.adds-2.ensures c.if-adds-2.false c.adds-3.ensures c.if-adds-3.true

pub returns-then-has_next_dash : goal.returns-then-has_next_dash
returns-then-has_next_dash c =
    let a = c.args in
    next-loose a.fires.now a.says.now a.inputs c.adds.ensures c.if-adds.false c.adds-2.ensures c.if-adds-2.false c.adds-3.ensures c.if-adds-3.false c.has_next_dash.ensures c.if-has_next_dash.true

pub returns-then-drops : goal.returns-then-drops
returns-then-drops c =
    let a = c.args in
    ones-lost a.fires.now a.says.now a.inputs c.adds.ensures c.if-adds.false c.adds-2.ensures c.if-adds-2.false c.adds-3.ensures c.if-adds-3.false c.has_next_dash.ensures c.if-has_next_dash.false c.drops.ensures c.if-drops.true

pub returns-then-drops-2 : goal.returns-then-drops-2
returns-then-drops-2 c =
    let a = c.args in
    next-lost a.fires.now a.says.now a.inputs c.adds.ensures c.if-adds.false c.adds-2.ensures c.if-adds-2.false c.adds-3.ensures c.if-adds-3.false c.has_next_dash.ensures c.if-has_next_dash.false c.drops.ensures c.if-drops.false c.drops-2.ensures c.if-drops-2.true

pub returns : goal.returns
returns c =
    let a = c.args in
    clash-decides a.fires.now a.says.now a.inputs c.adds.ensures c.if-adds.false c.adds-2.ensures c.if-adds-2.false c.adds-3.ensures c.if-adds-3.false c.has_next_dash.ensures c.if-has_next_dash.false c.drops.ensures c.if-drops.false c.drops-2.ensures c.if-drops-2.false c.has_clash.ensures
