-- `line::value_at` meets its contract: an entry is at most 64, and so fits a byte.
use mathlib.Core.Path.{sym, ap, ◌∙◌}
use native.Mathlib.Omega.{arith}
use Rattle.rules.specs.FlowLines.{entry_of}
use Rattle.read_flow.proofs.Entries.{entry-below, value-by}
use Rattle.read_flow.proofs.line.value_at.Goals as goal

pub overflow_cast-result : goal.overflow_cast-result
overflow_cast-result c =
    let a = c.args in
    let e = sym (c.entry_of.ensures ∙ ap (entry_of a.n) c.field.ensures) ∙ c.in-Some.is in
    omega (arith, entry-below _ _ _ (omega arith) e)

pub returns-in-Some : goal.returns-in-Some
returns-in-Some c =
    let a = c.args in
    let e = sym (c.entry_of.ensures ∙ ap (entry_of a.n) c.field.ensures) ∙ c.in-Some.is in
    sym (value-by _ _ _ e)

pub returns-in-None : goal.returns-in-None
returns-in-None c =
    let a = c.args in
    let e = sym (c.entry_of.ensures ∙ ap (entry_of a.n) c.field.ensures) ∙ c.in-None.is in
    sym (value-by _ _ _ e)
