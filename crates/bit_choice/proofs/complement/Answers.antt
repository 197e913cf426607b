-- `bit_choice::complement` meets its contract.
use Rattle.rules.specs.OneBit.{complemented}
use Rattle.sets.specs.Sets.{has}
use Rattle.std.proofs.Common.{◌≡◌, ℕ, ◌-◌, true, false, eqb, sym, ap, ◌∙◌}
use Rattle.bit_choice.proofs.complement.Goals as goal

pub returns-then-not-member : goal.returns-then-not-member
unfolding complemented
returns-then-not-member c =
    let a = c.args in
    let m : eqb (has a.b 0) 1 ≡ false = sym c.member.ensures ∙ c.if-not-member.true in
    rw m

pub returns : goal.returns
unfolding complemented
returns c =
    let a = c.args in
    let v = c.member in
    let m : eqb (has a.b 0) 1 ≡ true = sym v.ensures ∙ c.if-not-member.false in
    rw m (c.saturating_sub.ensures ∙ ap (λ (k : ℕ). k - a.b) c.everyone_of.ensures)
