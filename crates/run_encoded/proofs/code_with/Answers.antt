-- `run_encoded::code_with` meets its contract.
use Rattle.std.proofs.Common.{arith}
use Rattle.std.proofs.lemmas.Grind.{common_steps}
use Rattle.run_encoded.specs.Terms.{term_fires, code_with}
use Rattle.run_encoded.proofs.code_with.Goals as goal

pub returns-then-takes_code : goal.returns-then-takes_code
unfolding code_with term_fires
returns-then-takes_code c = grind (arith, common_steps)

pub returns-else-takes_input : goal.returns-else-takes_input
unfolding code_with term_fires
returns-else-takes_input c = grind (arith, common_steps)
