-- `judge_cover::fit_of` meets its contract.
use Rattle.std.specs.Prelude.{Err}
use mathlib.Core.Path.{ap, ◌∙◌}
use Rattle.judge_cover.proofs.Laws.{fit-inputs, fit-outputs, fit-both}
use Rattle.judge_cover.proofs.fit_of.Goals as goal

pub returns-then-h-inputs : goal.returns-then-h-inputs
returns-then-h-inputs c = ap Err c.at.ensures ∙ fit-inputs _ _ _ c.if-h-inputs.true

pub returns-then-h-outputs : goal.returns-then-h-outputs
returns-then-h-outputs c =
    ap Err c.at-then-h-outputs.ensures ∙ fit-outputs _ _ _ c.if-h-inputs.false c.if-h-outputs.true

pub returns : goal.returns
returns c =
    fit-both _ _ _ c.if-h-inputs.false c.if-h-outputs.false
