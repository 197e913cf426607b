-- `move_pairs::sway_partners` meets its contract.
use lib.Dec.{eqb}
use Rattle.sets.specs.Sets.{has}
use Rattle.move_pairs.specs.Pairs.{pairs_swayed}
use mathlib.Core.Path.{◌≡◌, sym, ◌∙◌}
use mathlib.Core.Bool.{true, false}
use Rattle.move_pairs.proofs.sway_partners.Goals as goal

pub returns-then-member : goal.returns-then-member
unfolding pairs_swayed
returns-then-member c =
    let a = c.args in
    let e : eqb (has a.b a.s) 1 ≡ true = sym c.member.ensures ∙ c.if-member.true in
    rw e c.put_pairs.ensures

pub returns-else-member : goal.returns-else-member
unfolding pairs_swayed
returns-else-member c =
    let a = c.args in
    let e : eqb (has a.b a.s) 1 ≡ false = sym c.member.ensures ∙ c.if-member.false in
    rw e c.put_pairs-else-member.ensures
