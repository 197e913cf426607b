-- `write_parts::is_open` meets its contract.
use mathlib.Core.Path.{◌∙◌}
use borrow.Author.Tests.{eq-eqb, not-true}
use Rattle.std.proofs.Common.{arith}
use Rattle.std.proofs.lemmas.Grind.{common_steps}
use Rattle.write_parts.specs.Parts.{open_for}
use Rattle.write_parts.proofs.is_open.Goals as goal

pub returns-then-part-eq0 : goal.returns-then-part-eq0
unfolding open_for
returns-then-part-eq0 c = c.is_room.ensures ∙ rw (not-true _ c.if-part-eq0.true.0, eq-eqb c.args.part.skip 0 c.if-part-eq0.true.1)

pub returns-else-part-eq0 : goal.returns-else-part-eq0
unfolding open_for
returns-else-part-eq0 c = grind (arith, common_steps)
