-- `asks::sets_of` meets its contract: the sets laid, with those that the entries from s on open, are all sets.
use native.Mathlib.Omega.{arith}
use borrow.Author.Rules.{rules}
use Rattle.read_flow.proofs.Sets.{laid_none, laid_next, laid-all}
use Rattle.read_flow.proofs.asks.sets_of.Goals as goal

pub loop-d-init : goal.loop-d-init
loop-d-init c = (search rules, laid_none _ _ c.no_sets-got.ensures)

pub loop-d-preserved : goal.loop-d-preserved
loop-d-preserved c =
    let l = c.loop-d in
    (search rules, laid_next _ l.d-index l.got _ (omega arith) (omega arith) c.with_entry-got.ensures l.invariant.1)

pub returns : goal.returns
returns c =
    let l = c.loop-d in
    (omega (arith, l.invariant.1.few), l.invariant.1.places, laid-all _ l.d-index l.got (omega arith) l.invariant.1)
