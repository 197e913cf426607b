-- `ending::disagreement_of` meets its contract.
use Rattle.read_kiss.proofs.Endings.{disagrees-by}
use mathlib.Core.Path.{refl, sym, ap, ◌∙◌}
use borrow.Author.Tests.{eq-eqb, ne_eqb}
use Rattle.std.specs.Prelude.{Err}
use Rattle.read_kiss.proofs.ending.disagreement_of.Goals as goal

pub returns-then-t-eq0 : goal.returns-then-t-eq0
returns-then-t-eq0 c = sym (disagrees-by _ _ (eq-eqb _ 0 c.if-t-eq0.true) refl)

pub returns-then-t-count : goal.returns-then-t-count
returns-then-t-count c = sym (disagrees-by _ _ (ne_eqb _ 0 c.if-t-eq0.false) (eq-eqb _ _ c.if-t-count.true))

pub returns : goal.returns
returns c = ap Err c.at.ensures ∙ sym (disagrees-by _ _ (ne_eqb _ 0 c.if-t-eq0.false) (ne_eqb _ _ c.if-t-count.false))
