-- `move_halves::mark_of` meets its contract.
use Prim.Native.Nat.{◌<◌}
use mathlib.Core.Path.{◌≡◌, ap, ◌∙◌}
use mathlib.Core.List.{[]}
use mathlib.Core.Bool.{Bool}
use lib.Bits.{bit_and, bit_or, xor_zero_l, or_lt}
use lib.Dec.{eqb}
use mathlib.Core.Path.{ap₂}
use mathlib.Core.Bool.{◌||◌, not}
use Rattle.sets.specs.Sets.{only}
use Rattle.families.specs.Families.{without}
use Rattle.move_halves.proofs.Moving.{member_below, member-by, by_near, by-mark}
use Rattle.move_halves.proofs.mark_of.Goals as goal

pub returns : goal.returns
returns c =
    let a = c.args in
    let own = c.flipped-own in
    let fits = or_lt 64 a.all a.out c.ranges.all.fits c.ranges.out.fits in
    let only-own : a.s < 64 → own.result ≡ only a.s = λ l. own.ensures.0 l ∙ xor_zero_l (only a.s) in
    by-mark a.all a.flip a.out a.b a.s [] c.few.result c.few-2.result (not (eqb (bit_and (bit_or a.all a.out) own.result) 0))
    (member-by (bit_or a.all a.out) own.result a.s fits (only-own, own.ensures.1))
    (λ i.
    let l : a.s < 64 = member_below (bit_or a.all a.out) a.s fits i in
    by_near a.all a.flip a.out a.b a.s [] _ _ (c.without_of-others.ensures ∙ ap (without a.all) (only-own l))
    c.side_of-x.ensures _ i
    (ap₂ (λ (p q : Bool). p || q) c.few.ensures c.few-2.ensures))
