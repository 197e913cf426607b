-- `read_listing::is_complete` meets its contract: the states below s were given their outputs.
use mathlib.Core.Path.{sym, ◌∙◌}
use native.Mathlib.Omega.{arith}
use borrow.Author.Tests.{not-true, not-false}
use Rattle.read_listing.proofs.Ends.{complete-mealy, complete-all, complete-not}
use Rattle.read_listing.proofs.is_complete.Goals as goal

pub returns-then-not-h : goal.returns-then-not-h
returns-then-not-h c = sym (complete-mealy _ _ (not-true _ c.if-not-h.true))

pub returns-then-not-member : goal.returns-then-not-member
returns-then-not-member c =
    sym (complete-not _ _ c.loop-s.s (not-false _ c.if-not-h.false) c.loop-s-test.true (sym c.member.ensures ∙ c.if-not-member.true))

pub returns : goal.returns
returns c =
    sym (complete-all _ _ (not-false _ c.if-not-h.false) (λ i h. c.loop-s.invariant i (omega (arith, h, c.loop-s-test.false))))
