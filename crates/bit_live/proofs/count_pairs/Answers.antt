-- `bit_live::count_pairs` meets its contract.
use Rattle.std.proofs.Common.{◌≡◌, ℕ, ◌+◌, length, sym, ap, ◌∙◌, arith}
use Rattle.families.specs.Families.{without}
use Rattle.move_pairs.specs.Pairs.{live_pairs}
use Rattle.bit_live.proofs.Counts.{pairsFrom, pairs_first, pairs-more, pairs_end, above-few}
use Rattle.bit_live.proofs.count_pairs.Goals as goal

-- one state more is counted
next : (count all left more one : ℕ) → count + left ≡ all → left ≡ one + more → count + one + more ≡ all
next count all left more one e f = omega arith

last_one : (count all left : ℕ) → count + left ≡ all → left ≡ 0 → count ≡ all
last_one count all left e f = omega arith

pub loop-i-init : goal.loop-i-init
loop-i-init c =
    let a = c.args in
    let z : 0 + pairsFrom a.n a.bits.now 0 ≡ pairsFrom a.n a.bits.now 0 = omega arith in
    (z ∙ pairs_first a.n a.bits.now, omega arith)

pub loop-i-preserved : goal.loop-i-preserved
loop-i-preserved c =
    let a = c.args in
    let l = c.loop-i in
    let ea = c.without_of-above.ensures ∙ ap (without c.partners_of-p.result) c.everyone_of.ensures in
    let few = above-few a.n a.bits.now l.i _ _ c.partners_of-p.ensures ea in
    let more = pairs-more a.n a.bits.now l.i _ _ (omega (arith, c.loop-i-test.true, c.min-i-end.ensures)) c.partners_of-p.ensures ea in
    let e = next l.count (length (live_pairs a.n a.bits.now)) (pairsFrom a.n a.bits.now l.i) (pairsFrom a.n a.bits.now (l.i + 1)) c.size_of.result l.invariant.0
    (more ∙ ap (λ (x : ℕ). x + pairsFrom a.n a.bits.now (l.i + 1)) (sym c.size_of.ensures)) in
    (e, omega (arith, few, c.size_of.ensures, l.invariant.1))

pub returns : goal.returns
returns c =
    let a = c.args in
    let l = c.loop-i in
    last_one l.count (length (live_pairs a.n a.bits.now)) (pairsFrom a.n a.bits.now l.i) l.invariant.0 (pairs_end a.n a.bits.now l.i (omega (arith, c.loop-i-test.false, c.min-i-end.ensures)))
