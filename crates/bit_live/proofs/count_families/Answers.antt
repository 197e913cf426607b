-- `bit_live::count_families` meets its contract.
use Rattle.std.proofs.Common.{refl}
use Rattle.families.proofs.Chunks.{chunk-left, chunks-end}
use Rattle.bit_live.proofs.Counts.{counted_none, counted_next, counted-all}
use Rattle.bit_live.proofs.count_families.Goals as goal

pub loop-all-init : goal.loop-all-init
loop-all-init c = counted_none c.args.fs.now

pub loop-all-preserved : goal.loop-all-preserved
loop-all-preserved c =
    let l = c.loop-all in
    let w = c.as_chunks.ensures in
    counted_next c.args.fs.now l.count _ _ _ _ _ _ _ (chunk-left c.args.fs.now _ w.front w.front_len l.all-index c.loop-all-test.true) l.invariant c.count_family.ensures refl

pub returns : goal.returns
returns c =
    let l = c.loop-all in
    let w = c.as_chunks.ensures in
    counted-all c.args.fs.now l.count _ (chunks-end c.args.fs.now _ w.front w.front_len l.all-index c.loop-all-test.false) l.invariant
