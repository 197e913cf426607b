-- `write_faces::pattern_byte` meets its contract.
use mathlib.Core.Path.{sym, ◌∙◌}
use Rattle.write_faces.proofs.Rows.{pattern-dash, pattern-digit}
use Rattle.write_faces.proofs.pattern_byte.Goals as goal

pub returns-then-member : goal.returns-then-member
returns-then-member c = pattern-dash _ _ (sym c.member.ensures ∙ c.if-member.true)

pub returns-else-member : goal.returns-else-member
returns-else-member c = pattern-digit _ _ (sym c.member.ensures ∙ c.if-member.false) c.digit_byte.ensures
