-- `judge_codes::code_in` meets its contract.
use mathlib.Core.Path.{sym, ◌∙◌}
use native.Mathlib.Omega.{arith}
use Rattle.rules.specs.Limits.{most_bits}
use Rattle.rules.specs.Text.{nought, one}
use Rattle.read_fields.proofs.Sets.{places-read, places-none}
use Rattle.judge_codes.proofs.Laws.{field-dash, field-unfit, field_fit}
use Rattle.judge_codes.proofs.code_in.Goals as goal

pub returns-then-w-eq0 : goal.returns-then-w-eq0
returns-then-w-eq0 c =
    c.then_some.ensures ∙ field-dash c.args.f.now c.if-w-eq0.true c.is_dash.ensures

pub returns-in_err-code : goal.returns-in_err-code
returns-in_err-code c =
    rw c.from_residual.ensures
    (field-unfit _ _ c.if-w-eq0.false (places-none nought one one _ most_bits _ (λ l. omega arith) (sym c.in_err-code.ensures)))

pub returns : goal.returns
returns c =
    let fit = places-read nought one one _ most_bits _ (λ l. omega arith) (sym c.in_ok-code.ensures) in
    field_fit _ _ c.if-w-eq0.false fit.0 fit.1
