-- `move_pairs::fill_pairs` meets its contract.
use Rattle.std.proofs.Common.{◌<◌, ◌≤◌, ℕ, ◌+◌, min, sym, ap, ◌∙◌, arith}
use Rattle.move_pairs.specs.Pairs.{pairs_added}
use Rattle.move_pairs.proofs.Filling.{filledFrom, filled-first, filled_more, filled-end}
use Rattle.move_pairs.proofs.fill_pairs.Goals as goal

pub loop-i-preserved : goal.loop-i-preserved
loop-i-preserved c =
    let a = c.args in
    let l = c.loop-i in
    let h : l.i < min a.n 64 = omega (arith, c.loop-i-test.true, c.min-i-end.ensures) in
    ap (filledFrom a.n a.bits.now a.b (l.i + 1)) (c.add_pairs.ensures ∙ ap (λ (p : ℕ). pairs_added a.b l.i p l.t) c.partners_of.ensures)
    ∙ sym (filled_more a.n a.bits.now a.b l.i l.t h)
    ∙ l.invariant

pub returns : goal.returns
returns c =
    let a = c.args in
    let l = c.loop-i in
    let h : min a.n 64 ≤ l.i = omega (arith, c.loop-i-test.false, c.min-i-end.ensures) in
    sym (filled-end a.n a.bits.now a.b l.i l.t h)
    ∙ l.invariant
    ∙ filled-first a.n a.bits.now a.b a.t.now c.ranges.b.fits (λ i. (c.slice_known-1.given i).fits)
