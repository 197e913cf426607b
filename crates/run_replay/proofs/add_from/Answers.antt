-- `run_replay::add_from` meets its contract, by the place.
use mathlib.Core.Path.{sym, ap, ◌∙◌}
use Rattle.rules.specs.Text.{lines_of}
use Rattle.run_replay.specs.Places.{ran_by, ran_on}
use Rattle.run_replay.specs.declared.Place.{Place}
use Rattle.run_replay.proofs.Lines.{none-on}
use Rattle.run_replay.proofs.add_from.Goals as goal

pub returns-in-First : goal.returns-in-First
unfolding ran_by
returns-in-First c =
    let a = c.args in
    c.add_first.ensures ∙ sym (ap (λ (p : Place). ran_on (ran_by a.m.listing.now a.m.terms.now a.m.bits.now p (lines_of a.run.now)) (a.part, a.out.now)) c.in-First.is)

pub returns-in-Behind : goal.returns-in-Behind
unfolding ran_by
returns-in-Behind c =
    let a = c.args in
    c.add_steps.ensures ∙ sym (ap (λ (p : Place). ran_on (ran_by a.m.listing.now a.m.terms.now a.m.bits.now p (lines_of a.run.now)) (a.part, a.out.now)) c.in-Behind.is)

pub returns-in-Over : goal.returns-in-Over
unfolding ran_by
returns-in-Over c =
    let a = c.args in
    none-on Place.Over (a.part, a.out.now) ∙ sym (ap (λ (p : Place). ran_on (ran_by a.m.listing.now a.m.terms.now a.m.bits.now p (lines_of a.run.now)) (a.part, a.out.now)) c.in-Over.is)
