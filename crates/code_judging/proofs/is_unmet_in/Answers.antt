-- `code_judging::is_unmet_in` meets its contract: it asks one requirement after the other.
use Rattle.std.proofs.Common.{rules}
use Rattle.std.proofs.lemmas.Iterator.Search.{any_from_yields_List}
use Rattle.std.proofs.lemmas.Iterator.Consumers.{YieldsList-from_first}
use Rattle.rules.specs.Requirements.{met_by_code}
use Rattle.families.specs.Families.{requirements_in}
use Rattle.code_walking.specs.Walking.{left}
use Rattle.code_judging.proofs.Walked.{any_is}
use borrow.Author.Tests.{tests}
use mathlib.Core.Bool.{not}
use mathlib.Core.Path.{◌∙◌}
use Rattle.code_judging.proofs.is_unmet_in.Goals as goal

pub returns : goal.returns
returns c =
    let bits = c.args.bits.now in
    let all = requirements_in c.args.fs.now in
    any_from_yields_List (λ r. not (met_by_code 64 bits r)) _ _ _ c.any.ensures.ran (YieldsList-from_first (λ x. x) left all c.new.ensures) (λ x b q k. search (rules, tests)) ∙ any_is bits all
