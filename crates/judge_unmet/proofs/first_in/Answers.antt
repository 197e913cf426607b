-- `judge_unmet::first_in` meets its contract: the place of the first that no bit meets is its number.
use Rattle.std.specs.Prelude.{Some, None}
use Rattle.std.proofs.Common.{rules, tests}
use Rattle.std.proofs.lemmas.Iterator.Search.{position_from_yields_List}
use Rattle.std.proofs.lemmas.Iterator.Consumers.{YieldsList-from_first}
use Rattle.std.proofs.lemmas.Iterator.Adapters.{position_from-zero}
use Rattle.families.specs.Families.{requirements_in}
use Rattle.families.proofs.Family.{families-few}
use Rattle.code_walking.specs.Walking.{left}
use Rattle.judge_unmet.proofs.Walked.{numbered, is_unmet, first-from}
use mathlib.Core.Logic.{inl}
use mathlib.Core.Path.{ap, ◌∙◌}
use native.Mathlib.Omega.{arith}
use lib.ListN.{length}
use Rattle.judge_unmet.proofs.first_in.Goals as goal

pub position-requires-clause-fits : goal.position-requires-clause-fits
position-requires-clause-fits c =
    inl (omega (arith, ap length c.new.ensures, families-few c.args.fs.now, c.requires))

pub returns-in_err-k : goal.returns-in_err-k
returns-in_err-k c =
    let bits = c.args.bits.now in
    let all = requirements_in c.args.fs.now in
    c.from_residual.ensures
    ∙ ap numbered (position_from_yields_List (is_unmet bits) _ _ None c.in_err-k.ensures.ran (YieldsList-from_first (λ x. x) left all c.new.ensures) (λ x b q k. search (rules, tests)) ∙ position_from-zero (is_unmet bits) all)
    ∙ first-from bits 0 all

pub returns : goal.returns
returns c =
    let bits = c.args.bits.now in
    let all = requirements_in c.args.fs.now in
    ap numbered (position_from_yields_List (is_unmet bits) _ _ (Some c.in_ok-k.k) c.in_ok-k.ensures.ran (YieldsList-from_first (λ x. x) left all c.new.ensures) (λ x b q k. search (rules, tests)) ∙ position_from-zero (is_unmet bits) all)
    ∙ first-from bits 0 all
