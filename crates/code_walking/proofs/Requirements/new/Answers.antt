-- `code_walking::Requirements::new` meets its contract: what is ahead from the start are all requirements.
use Rattle.code_walking.specs.Walking.{ahead, left}
use Rattle.code_walking.proofs.Ahead.{begun-ahead}
use mathlib.Core.Path.{ap, ◌∙◌}
use Rattle.code_walking.proofs.Requirements.new.Goals as goal

pub returns : goal.returns
unfolding left
returns c =
    ap (ahead c.args.families.now) c.enter.ensures ∙ begun-ahead c.args.families.now
