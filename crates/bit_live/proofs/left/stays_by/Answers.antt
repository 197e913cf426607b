-- `bit_live::stays_by` meets its contract.
use Rattle.move_halves.proofs.Halving.{size-test}
use Rattle.bit_live.specs.Left.{stays_by}
use Rattle.std.proofs.Common.{◌∙◌, eq-eqb, ne_eqb}
use Rattle.bit_live.proofs.left.stays_by.Goals as goal

pub returns-then-x-ne0 : goal.returns-then-x-ne0
unfolding stays_by
returns-then-x-ne0 c =
    rw (eq-eqb c.args.out 0 c.if-out-eq0.true, size-test c.args.x c.ranges.x.fits ∙ ne_eqb c.args.x 0 c.if-x-ne0.true, size-test c.args.y c.ranges.y.fits)

pub returns-else-x-ne0 : goal.returns-else-x-ne0
unfolding stays_by
returns-else-x-ne0 c =
    rw (eq-eqb c.args.out 0 c.if-out-eq0.true, size-test c.args.x c.ranges.x.fits, eq-eqb c.args.x 0 c.if-x-ne0.false)

pub returns-else-out-eq0 : goal.returns-else-out-eq0
unfolding stays_by
returns-else-out-eq0 c =
    rw (ne_eqb c.args.out 0 c.if-out-eq0.false)
