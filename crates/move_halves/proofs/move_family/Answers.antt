-- `move_halves::move_family` meets its contract.
use Prim.Native.Nat.{◌<◌}
use mathlib.Core.Path.{◌≡◌, sym, ap, ◌∙◌}
use native.Mathlib.Omega.{arith}
use lib.Bits.{xor_zero_l}
use borrow.Author.Tests.{eqb-true, eqb-false}
use Rattle.sets.specs.Sets.{has, only}
use Rattle.sets.proofs.Members.{has-lt}
use Rattle.families.specs.Families.{without}
use Rattle.move_halves.proofs.Moving.{number-of_test, member_below, move-missing, by-common, by-outside}
use Rattle.move_halves.proofs.move_family.Goals as goal

pub returns-then-member : goal.returns-then-member
returns-then-member c =
    let a = c.args in
    let e : has a.all a.s ≡ 1 = eqb-true (has a.all a.s) 1 (sym c.member.ensures ∙ c.if-member.true) in
    let l : a.s < 64 = member_below a.all a.s c.ranges.all.fits e in
    let own = c.flipped-own.ensures.0 l ∙ xor_zero_l (only a.s) in
    let v = c.turned.ensures in
    by-common a.all a.flip a.out a.b a.s a.t.now _ _ (c.without_of-others.ensures ∙ ap (without a.all) own) c.side_of-x.ensures _ _ _ _ e c.member-then-member.ensures c.without_of-o.ensures (rw (v.0, v.1, v.2, v.3) at c.move_in.ensures)

pub returns-then-not-member : goal.returns-then-not-member
returns-then-not-member c =
    let a = c.args in
    let o = eqb-false (has a.all a.s) 1 (sym c.member.ensures ∙ c.if-member.false) in
    let q = eqb-false (has a.out a.s) 1 (sym c.member-2.ensures ∙ c.if-not-member.true) in
    let m = move-missing a.all a.flip a.out a.b a.s a.t.now (omega (arith, has-lt a.all a.s)) (omega (arith, has-lt a.out a.s)) in
    (sym m.0, sym m.1)

pub returns : goal.returns
returns c =
    let a = c.args in
    let o = eqb-false (has a.all a.s) 1 (sym c.member.ensures ∙ c.if-member.false) in
    let e : has a.out a.s ≡ 1 = eqb-true (has a.out a.s) 1 (sym c.member-2.ensures ∙ c.if-not-member.false) in
    let l : a.s < 64 = member_below a.out a.s c.ranges.out.fits e in
    let own = c.flipped-own.ensures.0 l ∙ xor_zero_l (only a.s) in
    by-outside a.all a.flip a.out a.b a.s a.t.now _ _ (c.without_of-others.ensures ∙ ap (without a.all) own) c.side_of-x.ensures _ _ _ _ _ e (omega (arith, has-lt a.all a.s)) c.member-3.ensures own c.near_of.ensures (number-of_test c.near_of.result) c.move_out.ensures
