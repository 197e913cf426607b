-- `bit_live::sift_families` meets its contract.
use Rattle.std.proofs.Common.{◌≡◌, ◌+◌, ◌*◌, ◌-◌, ◌≤◌, length, subst, arith}
use Rattle.bit_live.proofs.Sifting.{Judged, judged-next, judged-words, judged-families}
use Rattle.bit_live.proofs.sift_families.Goals as goal

pub loop-k-preserved : goal.loop-k-preserved
loop-k-preserved c =
    let a = c.args in
    let l = c.loop-k in
    let e : 3 * l.k + 3 ≡ 3 * (l.k + 1) = omega arith in
    subst (λ i. Judged a.b a.fs.now i c.sift_family-j.result c.sift_family-j.new.fs) e
    (judged-next a.b a.fs.now (3 * l.k) l.j l.fs l.invariant _ _ (omega (arith, c.loop-k-test.true)) c.sift_family-j.ensures.0 c.sift_family-j.ensures.1)

pub returns : goal.returns
returns c =
    let a = c.args in
    let l = c.loop-k in
    let e : length a.fs.now - 3 * l.k ≤ 2 = omega (arith, c.loop-k-test.false) in
    (judged-words a.b a.fs.now (3 * l.k) l.j l.fs l.invariant e, judged-families a.b a.fs.now (3 * l.k) l.j l.fs l.invariant e)
