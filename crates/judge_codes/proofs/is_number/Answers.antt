-- `judge_codes::is_number` meets its contract.
use mathlib.Core.Path.{◌∙◌}
use Rattle.judge_codes.proofs.Laws.{number-is}
use Rattle.judge_codes.proofs.is_number.Goals as goal

pub returns : goal.returns
returns c = c.eq.ensures ∙ number-is c.args.f.now c.args.s c.numeral_of.ensures
