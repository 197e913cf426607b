-- `sets::size_of` meets its contract: the machine's count is the size.
use mathlib.Core.Path.{sym}
use Rattle.sets.proofs.Size.{size-ones}
use Rattle.sets.proofs.size_of.Goals as goal

pub returns : goal.returns
returns c = sym (size-ones c.args.m)
