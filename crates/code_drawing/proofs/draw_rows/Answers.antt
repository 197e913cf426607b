-- `code_drawing::draw_rows` meets its contract: the rows still to come, behind the words drawn, make what all of them make.
use Rattle.std.proofs.Common.{◌≡◌, ◌≤◌, ◌+◌, ℕ, List, length, get_or, take, drop, ap, ◌∙◌, arith, length-take-le}
use Rattle.rules.specs.Listing.{no_row}
use Rattle.code_drawing.specs.Drawing.{with_groups}
use Rattle.code_drawing.proofs.Groups.{with-length, rows_more, rows_none}
use Rattle.code_drawing.proofs.Growing.{drew-more, drew-as, drew-words}
use Rattle.code_drawing.proofs.draw_rows.Goals as goal

pub loop-row-preserved : goal.loop-row-preserved
loop-row-preserved c =
    let n = c.args.n in
    let rows = c.args.rows.now in
    let l = c.loop-row in
    let d = c.draw_group-k.ensures in
    let few : l.k + 3 ≤ length l.fs = omega (arith, l.invariant.1, l.auto.fs, c.loop-row-test.true, c.requires) in
    let w = with-length n (take l.k l.fs) (get_or rows l.row-index no_row).group in
    let long-take : length (take l.k l.fs) ≡ l.k = length-take-le _ _ (omega arith) in
    let count = d.count in
    let up : l.k ≤ c.draw_group-k.result = omega (arith, w.0, count) in
    let most : c.draw_group-k.result ≤ l.k + 3 = omega (arith, w.1, count) in (
      omega (arith, l.invariant.0),
      omega (arith, l.invariant.1),
      drew-more l.invariant.2 d up,
      ap (λ (x : List ℕ). with_groups n x (drop (l.row-index + 1) rows)) (drew-words d)
          ∙ rows_more rows n l.row-index (take l.k l.fs) no_row c.loop-row-test.true
          ∙ l.invariant.3,
    )

pub returns : goal.returns
returns c =
    let l = c.loop-row in
    drew-as l.invariant.2 (rows_none c.args.rows.now c.args.n l.row-index (take l.k l.fs) c.loop-row-test.false ∙ l.invariant.3)
