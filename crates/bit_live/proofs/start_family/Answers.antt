-- `bit_live::start_family` meets its contract.
use lib.Bits.{bit_and, bit_or, xor_zero_l}
use lib.Count.{count_trailing_zeros}
use Rattle.sets.specs.Sets.{only}
use Rattle.sets.proofs.LowestMember.{lowest-at}
use Rattle.families.specs.Families.{without}
use Rattle.families.proofs.Parts.{rest_lt}
use Rattle.bit_live.proofs.Starts.{start-single, start_none, start-group}
use Rattle.std.proofs.Common.{◌≡◌, ◌^◌, ◌<◌, sym, ap, ◌∙◌}
use Rattle.bit_live.proofs.start_family.Goals as goal

pub returns-then-out-eq0 : goal.returns-then-out-eq0
returns-then-out-eq0 c =
    sym (start-single c.args.all c.args.flip c.args.out c.if-out-eq0.true)

pub returns-then-o-eq0 : goal.returns-then-o-eq0
returns-then-o-eq0 c =
    let a = c.args in
    sym (start_none a.all a.flip a.out c.if-out-eq0.false (sym c.without_of-o.ensures ∙ c.if-o-eq0.true))

pub returns : goal.returns
returns c =
    let a = c.args in
    let h : without a.out a.all < 2 ^ 64 = rest_lt 64 a.out a.all c.ranges.out.fits in
    let z : without a.out a.all ≡ 0 → ⊥ = λ z. c.if-o-eq0.false (c.without_of-o.ensures ∙ z) in
    let e : c.lowest-k.result ≡ count_trailing_zeros 64 (without a.out a.all) = c.lowest-k.ensures ∙ ap (count_trailing_zeros 64) c.without_of-o.ensures in
    let l = lowest-at (without a.out a.all) c.lowest-k.result h z e in
    ap (bit_or (bit_and a.all a.flip)) (c.flipped.ensures.0 l.0 ∙ xor_zero_l (only c.lowest-k.result))
    ∙ sym (start-group a.all a.flip a.out c.lowest-k.result c.if-out-eq0.false h z e)
