-- The iterator over requirements meets its contract: it yields the one where the walk stands, and behind it what is ahead of the next place.
use Rattle.code_walking.specs.Walking.{ahead, left}
use Rattle.code_walking.proofs.Ahead.{over_none}
use Rattle.rules.specs.declared.Requirement.{Requirement}
use borrow.Author.Rules.{rules}
use borrow.Author.Tests.{ltb-true}
use lib.ListN.{length}
use mathlib.Core.List.{◌∷◌}
use mathlib.Core.Path.{sym, ap, ◌∙◌}
use Rattle.code_walking.proofs.RequirementsIterator.next.Goals.{Else-is_over}
use Rattle.code_walking.proofs.RequirementsIterator.next.Goals as goal

pub returns-then-is_over-clause-steps : goal.returns-then-is_over-clause-steps
unfolding left
returns-then-is_over-clause-steps c =
    let s = c.args.self.now in
    let none = over_none s.families.now s.walk (ltb-true _ _ (sym c.is_over.ensures ∙ c.if-is_over.true)) in
    (none, none)

pub returns-clause-steps : goal.returns-clause-steps
unfolding left
returns-clause-steps c =
    let fs = c.args.self.now.families.now in
    c.behind-self.ensures.behind ∙ ap (λ (r : Requirement). r ∷ ahead fs c.behind-self.result) (sym c.requirement_of-first.ensures)

pub returns-clause-goes : goal.returns-clause-goes
unfolding left
returns-clause-goes c =
    let shorter = ap length c.behind-self.ensures.behind in search rules
