-- `write_parts::begin` meets its contract.
use mathlib.Core.Path.{refl}
use Rattle.write_parts.specs.Parts.{begun}
use Rattle.write_parts.proofs.begin.Goals as goal

pub returns : goal.returns
unfolding begun
returns c = refl
