-- `code_least::found_as` meets its contract, by what was found.
use Rattle.std.specs.Prelude.{Ok}
use mathlib.Core.Path.{ap, ◌∙◌}
use Rattle.code_least.proofs.Answers.{width-as, nothing-as}
use Rattle.code_least.proofs.found_as.Goals as goal

pub returns-in-Some : goal.returns-in-Some
returns-in-Some c =
    ap Ok c.coded_as.ensures ∙ width-as c.args.n c.args.asked c.args.found _ c.args.code.now c.in-Some.is

pub returns-in-None : goal.returns-in-None
returns-in-None c =
    c.uncoded_as.ensures ∙ nothing-as c.args.n c.args.asked c.args.found c.args.code.now c.in-None.is
