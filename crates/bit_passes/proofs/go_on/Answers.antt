-- `bit_passes::go_on` meets its contract.
use Rattle.bit_live.specs.Live.{live_in}
use Rattle.bit_passes.proofs.Running.{by_move}
use Rattle.bit_passes.proofs.go_on.Goals as goal

pub returns : goal.returns
returns c =
    let a = c.args in
    by_move a.n (live_in a.n a.bits.now a.fs.now) a.w a.t.now c.choose-s.result c.flipped-a.result c.flipped.result c.level_at.result c.reach-level.result c.move_live-looks.result _ c.best_of.result
    c.requires c.choose-s.ensures c.flipped-a.ensures.0 c.flipped.ensures.0 c.level_at.ensures c.reach-level.ensures c.move_live-looks.ensures c.best_of.ensures
