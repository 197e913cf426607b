-- `move_trial::families_of` meets its contract: what is left of the requirements is still to be stored.
use Rattle.std.proofs.Common.{◌<◌, length, sym, ◌∙◌, length-set, rules}
use Rattle.move_trial.specs.Record.{stored}
use Rattle.move_trial.proofs.Stored.{onward-more, onward-end}
use Rattle.move_trial.proofs.families_of.Goals as goal

pub loop-i-preserved : goal.loop-i-preserved
loop-i-preserved c = let a = c.args in
    let p : c.loop-i.i < length a.firsts.now = search rules in
    let q : c.loop-i.i < length a.seconds.now = search rules in
    (sym (onward-more c.loop-i.t a.firsts.now a.seconds.now c.loop-i.i p q) ∙ c.loop-i.invariant.0, simp length-set c.loop-i.invariant.1)

pub returns : goal.returns
unfolding stored
returns c = let a = c.args in
    sym (onward-end c.loop-i.t a.firsts.now a.seconds.now c.loop-i.i c.loop-i-test.false) ∙ c.loop-i.invariant.0
