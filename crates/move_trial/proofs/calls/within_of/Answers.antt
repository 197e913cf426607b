-- `move_trial::calls::within_of` meets its contract.
use Rattle.move_trial.proofs.Pairs.{within-wide}
use Rattle.std.proofs.Common.{◌∙◌, rules, le-leb}
use Rattle.move_trial.proofs.calls.within_of.Goals as goal

pub returns-then-n-ge64 : goal.returns-then-n-ge64
returns-then-n-ge64 c = le-leb 64 c.args.n c.if-n-ge64.true ∙ within-wide c.args.n c.args.m c.if-n-ge64.true (search rules)
