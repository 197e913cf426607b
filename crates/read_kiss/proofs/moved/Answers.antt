-- `read_kiss::moved` meets its contract.
use Rattle.read_kiss.specs.Says.{moved_by}
use mathlib.Core.Path.{refl}
use Rattle.read_kiss.proofs.moved.Goals as goal

pub returns : goal.returns
unfolding moved_by
returns c = refl
