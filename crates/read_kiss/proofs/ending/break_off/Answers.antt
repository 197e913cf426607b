-- `ending::break_off` meets its contract.
use Rattle.read_kiss.proofs.Endings.{unended-none, unended-some}
use Rattle.rules.specs.declared.KissMark.{KissMark}
use Rattle.rules.specs.Text.{mark_of}
use Rattle.rules.specs.KissLines.{kiss_mark}
use Rattle.rules.specs.Kiss.{kiss_placed}
use mathlib.Core.Path.{◌≡◌, sym, ap, ◌∙◌}
use Rattle.read_kiss.proofs.ending.break_off.Goals.{After-in_place}
use Rattle.read_kiss.proofs.ending.break_off.Goals as goal

-- whether the line is in its place, as the code judged it
placed : (c : After-in_place) → let a = c.args in kiss_placed (kiss_mark (mark_of a.l.now)) a.h ≡ c.in_place.result
placed c = let a = c.args in ap (λ (m : KissMark). kiss_placed m a.h) (sym c.mark_of.ensures) ∙ sym c.in_place.ensures

pub returns-then-l-eq0 : goal.returns-then-l-eq0
returns-then-l-eq0 c = c.at.ensures ∙ sym (unended-none _ _ _ c.if-l-eq0.true)

pub returns-then-in_place : goal.returns-then-in_place
returns-then-in_place c = c.at-then-in_place.ensures ∙ sym (unended-some _ _ _ c.if-l-eq0.false (placed (goal.at.returns-then-in_place c).After-in_place ∙ c.if-in_place.true))

pub returns : goal.returns
returns c = c.at-2.ensures ∙ sym (unended-some _ _ _ c.if-l-eq0.false (placed (goal.at.returns c).After-in_place ∙ c.if-in_place.false))
