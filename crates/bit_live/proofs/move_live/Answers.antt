-- `bit_live::move_live` meets its contract.
use Rattle.bit_live.proofs.Live.{by-live}
use Rattle.std.proofs.Common.{refl}
use Rattle.bit_live.proofs.move_live.Goals as goal

pub returns : goal.returns
returns c =
    let a = c.args in
    by-live a.n a.bits.now a.fs.now (λ i. (c.type_inv.fs i).fits) a.b a.s c.ranges.b.fits a.t.now (λ i. (c.slice_known-1.given i).fits) _ _ _ _ _ _ _
    c.level_at-v.ensures c.sway_pairs-one.ensures c.sway_families-other.ensures c.double_own.ensures refl
