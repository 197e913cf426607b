-- `sharing::meet` meets its contract.
use mathlib.Core.Path.{refl, sym, ◌∙◌}
use Rattle.sharing.proofs.Meeting.{meets-each}
use Rattle.sharing.proofs.meet.Goals as goal

pub returns-then-share_input : goal.returns-then-share_input
returns-then-share_input c = sym (meets-each _ _ (sym c.share_input.ensures ∙ c.if-share_input.true) refl)

pub returns-else-share_input : goal.returns-else-share_input
returns-else-share_input c =
    c.if-share_input.false ∙ sym (meets-each _ _ (sym c.share_input.ensures ∙ c.if-share_input.false) refl)
