-- `sets::without_lowest` meets its contract: 1 less changes the lowest member, and below it only what is out.
use mathlib.Core.Path.{sym, ◌∙◌}
use native.Mathlib.Omega.{arith}
use borrow.Author.Rules.{rules}
use Rattle.sets.proofs.LowestMember.{less_one, without-none, without-some}
use Rattle.sets.proofs.without_lowest.Goals as goal

pub returns-then-m-eq0 : goal.returns-then-m-eq0
returns-then-m-eq0 c = sym (without-none c.args.m c.if-m-eq0.true)

pub returns : goal.returns
returns c =
    let m = c.args.m in
    less_one 64 m (search rules) (let h = c.if-m-eq0.false in omega arith) ∙ sym (without-some m c.if-m-eq0.false)
