-- `write_widths::count_unmet` meets its contract: those that pass the test are counted.
use Rattle.std.proofs.Common.{rules, tests}
use Rattle.std.proofs.lemmas.Iterator.Consumers.{YieldsList-at, YieldsList-from_first, YieldsList-from_filter, count_from_yields_List}
use Rattle.rules.specs.Requirements.{met_by_code}
use Rattle.families.specs.Families.{requirements_in}
use Rattle.families.proofs.Family.{families-few}
use Rattle.code_walking.specs.Walking.{left}
use Rattle.write_widths.proofs.Counted.{filtered}
use mathlib.Core.Bool.{not}
use mathlib.Core.Logic.{inl}
use mathlib.Core.Path.{ap, ◌∙◌}
use native.Mathlib.Omega.{arith}
use lib.ListN.{length}
use Rattle.write_widths.proofs.count_unmet.Goals as goal

pub count-requires-clause-fits : goal.count-requires-clause-fits
count-requires-clause-fits c =
    inl (omega (arith, ap (λ s. length (left s)) c.filter.ensures.source, ap length c.new.ensures, families-few c.args.fs.now, c.requires))

pub returns : goal.returns
returns c =
    let bits = c.args.bits.now in
    let all = requirements_in c.args.fs.now in
    count_from_yields_List c.filter.result c.count.result c.count.ensures.ran
    (YieldsList-from_filter _ (λ r. not (met_by_code 64 bits r)) (YieldsList-at c.filter.ensures.source (YieldsList-from_first (λ x. x) left all c.new.ensures)) c.filter.ensures.closure (λ x b q k. search (rules, tests)))
    ∙ filtered 0 bits all
