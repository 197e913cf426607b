-- `run_symbolic::is_firing` meets its contract.
use mathlib.Core.Path.{sym, ◌∙◌}
use Rattle.run_symbolic.proofs.Steps.{fires-each}
use Rattle.run_symbolic.proofs.is_firing.Goals as goal

pub returns-then-takes_input : goal.returns-then-takes_input
returns-then-takes_input c =
    let a = c.args in
    c.member.ensures ∙ sym (fires-each a.head a.row a.x a.s (sym c.takes_input.ensures ∙ c.if-takes_input.true))

pub returns-else-takes_input : goal.returns-else-takes_input
returns-else-takes_input c =
    let a = c.args in
    c.if-takes_input.false ∙ sym (fires-each a.head a.row a.x a.s (sym c.takes_input.ensures ∙ c.if-takes_input.false))
