-- `code_drawing::draw_first` meets its contract.
use Rattle.std.proofs.Common.{◌≡◌, List, min, length, ap, rules, arith}
use Rattle.rules.specs.Limits.{most_states}
use Rattle.rules.specs.declared.Row.{Row}
use Rattle.code_drawing.specs.Drawing.{with_groups, pairs_of, first_families}
use Rattle.code_drawing.proofs.Growing.{drew-as}
use Rattle.code_drawing.proofs.Whole.{few-rows}
use Rattle.code_drawing.proofs.draw_first.Goals.{Start}
use Rattle.code_drawing.proofs.draw_first.Goals as goal

-- the places of the listing's table
places : (c : Start) → length c.args.t.table ≡ 128
places c = search rules

pub draw_before-requires : goal.draw_before-requires
draw_before-requires c =
    let few = few-rows c.args.t (places (goal.at.draw_before-requires c).Start) in
    (omega (arith, few, ap length c.counted.ensures), search rules)

pub returns : goal.returns
unfolding first_families
returns c =
    let t = c.args.t in
    drew-as c.draw_before.ensures (ap (λ (rs : List Row). with_groups t.head.states (pairs_of (min t.head.states most_states)) rs) c.counted.ensures)
