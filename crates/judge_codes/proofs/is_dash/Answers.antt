-- `judge_codes::is_dash` meets its contract.
use mathlib.Core.Path.{ap, ◌∙◌}
use lib.Dec.{eqb}
use lib.Pointwise.{pointwise}
use Rattle.judge_codes.proofs.Laws.{dash-is}
use Rattle.judge_codes.proofs.is_dash.Goals as goal

pub returns : goal.returns
returns c = c.eq.ensures ∙ ap (pointwise eqb c.args.f.now) c.as_slice.ensures ∙ dash-is c.args.f.now
