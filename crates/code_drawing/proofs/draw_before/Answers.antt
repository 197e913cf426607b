-- `code_drawing::draw_before` meets its contract: the pairs, and the groups behind them.
use Rattle.std.proofs.Common.{ℕ, ◌-◌, ap, arith}
use Rattle.code_drawing.specs.Drawing.{with_groups, pairs_of}
use Rattle.code_drawing.proofs.Growing.{drew-length, drew-as, drew-fits}
use Rattle.code_drawing.proofs.Whole.{pairs-length, drew-rows}
use Rattle.code_drawing.proofs.draw_before.Goals as goal

pub draw_rows-requires : goal.draw_rows-requires
draw_rows-requires c =
    let d = c.draw_pairs-k.ensures in
    let m : ℕ = c.min.result in
    let count = d.count in
    let few = pairs-length m 0 (m - 1) in
    let same = drew-length (omega (arith, few, c.min.ensures, c.requires)) d in
    omega (arith, few, c.min.ensures, c.requires)

pub returns : goal.returns
returns c =
    let a = c.args in
    let d = c.draw_pairs-k.ensures in
    drew-as (drew-rows (drew-fits d) d a.n a.rows.now c.draw_rows.ensures) (ap (λ (m : ℕ). with_groups a.n (pairs_of m) a.rows.now) c.min.ensures)
