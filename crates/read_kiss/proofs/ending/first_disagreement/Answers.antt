-- `ending::first_disagreement` meets its contract.
use Rattle.read_kiss.proofs.Endings.{disagreement-by}
use mathlib.Core.Path.{sym, ◌∙◌}
use borrow.Author.Tests.{lt-ltb, le-ltb}
use Rattle.read_kiss.proofs.ending.first_disagreement.Goals as goal

pub returns-then-h : goal.returns-then-h
returns-then-h c = c.or_else.ensures ∙ sym (disagreement-by _ _ c.disagreement_of-states.ensures c.disagreement_of-products.ensures (lt-ltb _ _ c.if-h.true))

pub returns : goal.returns
returns c = c.or_else-2.ensures ∙ sym (disagreement-by _ _ c.disagreement_of-states.ensures c.disagreement_of-products.ensures (le-ltb _ _ c.if-h.false))
