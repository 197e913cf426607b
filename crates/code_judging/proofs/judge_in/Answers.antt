-- `code_judging::judge_in` meets its contract: it judges the requirement that stands at the number, if one does.
use Rattle.std.specs.Prelude.{Some, None}
use Rattle.std.proofs.lemmas.Iterator.Consumers.{nth_from_yields_List, YieldsList-from_first}
use Rattle.families.specs.Families.{requirements_in}
use Rattle.code_walking.specs.Walking.{left}
use Rattle.code_judging.proofs.Walked.{at_one, at_none}
use mathlib.Core.Path.{◌∙◌}
use Rattle.code_judging.proofs.judge_in.Goals as goal

pub returns-in_err-r : goal.returns-in_err-r
returns-in_err-r c =
    let all = requirements_in c.args.fs.now in
    c.from_residual.ensures ∙ at_none c.args.bits.now all c.args.number (nth_from_yields_List None c.nth.new.self c.args.number c.in_err-r.ensures.ran (YieldsList-from_first (λ x. x) left all c.new.ensures))

pub returns : goal.returns
returns c =
    let all = requirements_in c.args.fs.now in
    c.judge.ensures ∙ at_one c.args.bits.now all c.args.number c.in_ok-r.r (nth_from_yields_List (Some c.in_ok-r.r) c.nth.new.self c.args.number c.in_ok-r.ensures.ran (YieldsList-from_first (λ x. x) left all c.new.ensures))
