-- `write_rows::line_count` meets its contract.
use mathlib.Core.Path.{sym, ◌∙◌}
use Rattle.write_rows.proofs.LeftOut.{no_line, one_line}
use Rattle.write_rows.proofs.line_count.Goals as goal

pub returns-then-is_left_out : goal.returns-then-is_left_out
returns-then-is_left_out c = sym (no_line _ _ _ (sym c.is_left_out.ensures ∙ c.if-is_left_out.true))

pub returns-else-is_left_out : goal.returns-else-is_left_out
returns-else-is_left_out c = sym (one_line _ _ _ (sym c.is_left_out.ensures ∙ c.if-is_left_out.false))
