-- `read_listing::break_off` meets its contract.
use Rattle.std.specs.Prelude.{Err}
use mathlib.Core.Path.{sym, ap, ◌∙◌}
use Rattle.rules.specs.Listing.{placed}
use Rattle.rules.specs.declared.Mark.{Mark}
use Rattle.read_listing.proofs.Ends.{unended-none, unended-some}
use Rattle.read_listing.proofs.break_off.Goals as goal

pub returns-then-l-eq0 : goal.returns-then-l-eq0
returns-then-l-eq0 c = unended-none _ _ _ _ c.if-l-eq0.true ∙ ap Err (sym c.at.ensures)

pub returns-then-in_place : goal.returns-then-in_place
returns-then-in_place c =
    let a = c.args in
    let m = sym (ap (λ (x : Mark). placed x a.k a.h a.given a.l.now) c.mark_of.ensures) ∙ sym c.in_place.ensures in
    unended-some _ _ _ _ c.if-l-eq0.false (m ∙ c.if-in_place.true) ∙ ap Err (sym c.at-then-in_place.ensures)

pub returns : goal.returns
returns c =
    let a = c.args in
    let m = sym (ap (λ (x : Mark). placed x a.k a.h a.given a.l.now) c.mark_of.ensures) ∙ sym c.in_place.ensures in
    unended-some _ _ _ _ c.if-l-eq0.false (m ∙ c.if-in_place.false) ∙ ap Err (sym c.at-2.ensures)
