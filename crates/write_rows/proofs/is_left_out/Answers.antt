-- `write_rows::is_left_out` meets its contract.
use Rattle.std.proofs.Common.{arith}
use Rattle.std.proofs.lemmas.Grind.{common_steps}
use Rattle.rules.specs.Cover.{is_left_out, says_nothing}
use Rattle.write_rows.proofs.is_left_out.Goals as goal

pub returns-then-row-eq0-2 : goal.returns-then-row-eq0-2
unfolding is_left_out says_nothing
returns-then-row-eq0-2 c = grind (arith, common_steps)

pub returns-else-row-eq0-2 : goal.returns-else-row-eq0-2
unfolding is_left_out says_nothing
returns-else-row-eq0-2 c = grind (arith, common_steps)
