-- `run_print::add_step` meets its contract.
use mathlib.Core.Path.{sym, ◌∙◌}
use mathlib.Core.Logic.{inl, inr}
use Rattle.run_print.proofs.Fields.{within-not, within_step}
use Rattle.run_print.proofs.add_step.Goals as goal

pub returns-then-width-gt-MOST_BITS : goal.returns-then-width-gt-MOST_BITS
returns-then-width-gt-MOST_BITS c =
    let a = c.args in
    let none = within-not a.state a.width a.code a.outputs a.n (a.part, a.out.now) in
    elim c.then-width-gt-MOST_BITS.either [ inl h ↦ sym (none (inl h)) | inr h ↦ sym (none (inr h.1)) ]

pub returns : goal.returns
returns c =
    let a = c.args in
    c.add_shown.ensures ∙ sym (within_step a.state a.width a.code a.outputs a.n (a.part, a.out.now) c.if-width-gt-MOST_BITS.false c.if-n-gt-MOST_OUTPUTS.false)
