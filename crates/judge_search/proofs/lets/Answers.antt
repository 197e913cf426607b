-- `judge_search::lets` meets its contract: a dash, or else the digit itself.
use mathlib.Core.Bool.{◌||◌}
use mathlib.Core.Path.{sym, ap, ◌∙◌}
use lib.Dec.{eqb}
use Rattle.sets.specs.Sets.{has}
use Rattle.judge_search.specs.Rows.{lets}
use Rattle.judge_search.specs.declared.Firing.{Firing}
use Rattle.judge_search.proofs.lets.Goals as goal

pub returns-then-member : goal.returns-then-member
unfolding lets
returns-then-member c =
    let a = c.args in
    c.if-member.true ∙ sym (ap (λ b. b || eqb (has c.firing_at-at.result.ones a.j) a.d) (sym c.member.ensures ∙ c.if-member.true)) ∙ ap (λ (f : Firing). eqb (has f.dashes a.j) 1 || eqb (has f.ones a.j) a.d) c.firing_at-at.ensures

pub returns-else-member : goal.returns-else-member
unfolding lets
returns-else-member c =
    let a = c.args in
    ap (λ o. eqb o a.d) c.digit_at.ensures
    ∙ sym (ap (λ b. b || eqb (has c.firing_at-at.result.ones a.j) a.d) (sym c.member.ensures ∙ c.if-member.false))
    ∙ ap (λ (f : Firing). eqb (has f.dashes a.j) 1 || eqb (has f.ones a.j) a.d) c.firing_at-at.ensures
