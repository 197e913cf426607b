-- `bit_live::left_by` meets its contract.
use Rattle.move_halves.proofs.Halving.{size-test}
use Rattle.bit_live.specs.Left.{left_by}
use Rattle.std.proofs.Common.{◌∙◌, eq-eqb, ne_eqb}
use Rattle.bit_live.proofs.left.left_by.Goals as goal

pub returns-in-0-eq0 : goal.returns-in-0-eq0
unfolding left_by
returns-in-0-eq0 c =
    let a = c.args in
    let w = c.in-0-eq0 in
    rw (size-test a.x c.ranges.x.fits ∙ eq-eqb a.x 0 w.is-0, size-test a.y c.ranges.y.fits ∙ eq-eqb a.y 0 w.is-1)

pub returns-in-0-default : goal.returns-in-0-default
unfolding left_by
returns-in-0-default c =
    let a = c.args in
    let w = c.in-0-default in
    rw (size-test a.x c.ranges.x.fits ∙ eq-eqb a.x 0 w.is-0, size-test a.y c.ranges.y.fits ∙ ne_eqb a.y 0 w.is-1.1)

pub returns-in_default-eq0 : goal.returns-in_default-eq0
unfolding left_by
returns-in_default-eq0 c =
    let a = c.args in
    let w = c.in_default-eq0 in
    rw (size-test a.x c.ranges.x.fits ∙ ne_eqb a.x 0 w.is-0.1, size-test a.y c.ranges.y.fits ∙ eq-eqb a.y 0 w.is-1)

pub returns-in_default : goal.returns-in_default
unfolding left_by
returns-in_default c =
    let a = c.args in
    let w = c.in_default in
    rw (size-test a.x c.ranges.x.fits ∙ ne_eqb a.x 0 w.is-0.1, size-test a.y c.ranges.y.fits ∙ ne_eqb a.y 0 w.is-1.1)
