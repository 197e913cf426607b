-- `asks::with_entry` meets its contract.
use mathlib.Core.Path.{sym, ◌∙◌}
use Rattle.read_flow.proofs.Sets.{new-below, entry-met, entry_new, met-done}
use Rattle.read_flow.proofs.asks.with_entry.Goals as goal

pub returns-then-not-is_new : goal.returns-then-not-is_new
returns-then-not-is_new c = sym (entry-met _ _ _ (sym c.is_new.ensures ∙ c.if-not-is_new.true))

pub returns : goal.returns
returns c =
    let a = c.args in
    let new = sym c.is_new.ensures ∙ c.if-not-is_new.false in
    met-done a.got a.d a.column.now c.set_of.result (new-below _ _ new) c.set_of.ensures ∙ sym (entry_new _ _ _ new)
