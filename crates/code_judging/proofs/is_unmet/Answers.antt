-- `code_judging::is_unmet` meets its contract.
use Rattle.rules.specs.Requirements.{is_by, met_by_code}
use Rattle.code_judging.proofs.Walked.{none-is}
use mathlib.Core.Bool.{not}
use mathlib.Core.Path.{ap, ◌∙◌}
use Rattle.code_judging.proofs.is_unmet.Goals as goal

pub returns : goal.returns
unfolding met_by_code
returns c =
    none-is c.judge.result c.is_none.result c.is_none.ensures ∙ ap (λ j. not (is_by j)) c.judge.ensures
