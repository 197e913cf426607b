-- `code_least::encode_small` meets its contract: first the states, then the requirements are counted.
use mathlib.Core.Path.{◌∙◌}
use Rattle.families.specs.Families.{requirements_in}
use Rattle.code_least.proofs.Answers.{many-states, many-asked, small-answer}
use Rattle.code_least.proofs.encode_small.Goals as goal

pub returns-then-n-gt-MOST_SMALL : goal.returns-then-n-gt-MOST_SMALL
returns-then-n-gt-MOST_SMALL c =
    c.uncoded_as.ensures ∙ many-states c.args.n (requirements_in c.args.fs.now) c.if-n-gt-MOST_SMALL.true

pub returns-then-asked-gt-MOST_SMALL_ASKED : goal.returns-then-asked-gt-MOST_SMALL_ASKED
returns-then-asked-gt-MOST_SMALL_ASKED c =
    c.uncoded_as-then-asked-gt-MOST_SMALL_ASKED.ensures ∙ many-asked c.args.n (requirements_in c.args.fs.now) c.if-n-gt-MOST_SMALL.false c.count_of-asked.result c.count_of-asked.ensures c.if-asked-gt-MOST_SMALL_ASKED.true

pub returns : goal.returns
returns c =
    c.least_of.ensures ∙ small-answer c.args.n (requirements_in c.args.fs.now) c.if-n-gt-MOST_SMALL.false c.count_of-asked.result c.count_of-asked.ensures c.if-asked-gt-MOST_SMALL_ASKED.false
