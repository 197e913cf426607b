-- `code_least::least_of` meets its contract: what the search told is the answer.
use mathlib.Core.Path.{refl, ◌∙◌}
use native.Mathlib.Omega.{arith}
use Rattle.families.specs.Families.{requirements_in}
use Rattle.code_least.proofs.Answers.{told-within, told-answer}
use Rattle.code_least.proofs.least_of.Goals as goal

pub found_as-requires : goal.found_as-requires
found_as-requires c =
    (omega (arith, c.requires.small), told-within c.args.n (requirements_in c.args.fs.now) _ refl c.search_code-found.ensures c.search_code-found.auto.code)

pub returns : goal.returns
returns c =
    c.found_as.ensures ∙ told-answer c.args.n (requirements_in c.args.fs.now) _ refl c.search_code-found.ensures c.args.asked
