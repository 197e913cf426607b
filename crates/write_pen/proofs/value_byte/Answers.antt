-- `write_pen::value_byte` meets its contract.
use Rattle.write_pen.proofs.Values.{value-nought, value-one, value-mixed}
use Rattle.write_pen.proofs.value_byte.Goals as goal

pub returns-then-b-g-eq0 : goal.returns-then-b-g-eq0
returns-then-b-g-eq0 c = value-nought _ _ _ c.if-b-g-eq0.true

pub returns-then-b-g : goal.returns-then-b-g
returns-then-b-g c = value-one _ _ _ c.if-b-g-eq0.false c.if-b-g.true

pub returns-else-b-g : goal.returns-else-b-g
returns-else-b-g c = value-mixed _ _ _ c.if-b-g-eq0.false c.if-b-g.false
