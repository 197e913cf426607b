-- `move_families::fill_families` meets its contract: the families still to come fill the table as all of them do.
use Rattle.std.proofs.Common.{◌+◌, ◌*◌, drop, sym, ap, ◌∙◌}
use Rattle.families.proofs.Chunks.{chunk-left, chunks-end}
use Rattle.move_families.specs.Filled.{filled_all}
use Rattle.move_families.proofs.Filling.{filled_more, filled-end, filled-families}
use Rattle.move_families.proofs.fill_families.Goals as goal

pub loop-all-preserved : goal.loop-all-preserved
loop-all-preserved c =
    let a = c.args in
    let l = c.loop-all in
    let w = c.as_chunks.ensures in
    ap (filled_all (drop (3 * (l.all-index + 1)) a.fs.now) a.b) c.fill_family.ensures
    ∙ sym (filled_more _ _ _ _ _ a.b l.t (chunk-left a.fs.now _ w.front w.front_len l.all-index c.loop-all-test.true))
    ∙ l.invariant

pub returns : goal.returns
returns c =
    let a = c.args in
    let l = c.loop-all in
    let w = c.as_chunks.ensures in
    sym (filled-end _ a.b l.t (chunks-end a.fs.now _ w.front w.front_len l.all-index c.loop-all-test.false))
    ∙ l.invariant
    ∙ filled-families a.fs.now (λ i. (c.type_inv.fs i).fits) a.b c.ranges.b.fits a.t.now (λ i. (c.slice_known-1.given i).fits)
