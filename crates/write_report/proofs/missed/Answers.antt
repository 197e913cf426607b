-- `write_report::missed` meets its contract.
use Rattle.std.specs.Option.{is_some}
use mathlib.Core.Bool.{Bool, true, false, not}
use mathlib.Core.Path.{◌≡◌, refl, ◌∙◌}
use mir.Val.{bool_byte}
use Rattle.std.specs.Prelude.{Option, Some, None}
use Rattle.rules.specs.Text.{digit}
use Rattle.rules.specs.Requirements.{is_by}
use Rattle.rules.specs.declared.BitNumber.{BitNumber}
use Rattle.write_report.proofs.missed.Goals as goal

missed-is : (j : Option BitNumber) (b : Bool) → is_some j ≡ not b → bool_byte b ≡ digit (not (is_by j))
unfolding is_by
missed-is (Some k) true e = cc
missed-is (Some k) false e = refl
missed-is None true e = refl
missed-is None false e = cc

pub returns : goal.returns
returns c = c.from.ensures ∙ missed-is c.args.judged c.is_none.result c.is_none.ensures
