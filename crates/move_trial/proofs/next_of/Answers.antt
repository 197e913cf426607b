-- `move_trial::next_of` meets its contract.
use Rattle.move_trial.proofs.Made.{next-made}
use Rattle.std.proofs.Common.{refl}
use Rattle.move_trial.proofs.next_of.Goals as goal

pub returns : goal.returns
returns c = next-made c.args.t c.args.s c.flipped.result c.flipped-2.result _ c.move_families-looks.result _
    (c.flipped.ensures.0 c.requires.1) (c.flipped-2.ensures.0 c.requires.1) c.move_families-looks.ensures.0 c.move_families-looks.ensures.1
    refl
