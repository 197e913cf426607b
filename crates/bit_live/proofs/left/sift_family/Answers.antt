-- `bit_live::sift_family` meets its contract.
use Rattle.families.specs.Families.{laid}
use Rattle.bit_live.specs.Left.{stays_at}
use Rattle.bit_live.proofs.Family.{by-family}
use Rattle.std.proofs.Common.{◌≡◌, ℕ, ◌+◌, true, false, List, get_or, sym, refl, ap, ◌∙◌}
use Rattle.bit_live.proofs.left.sift_family.Goals as goal

pub returns-then-stays_by : goal.returns-then-stays_by
returns-then-stays_by c =
    let a = c.args in
    let l : List ℕ = a.fs.now in
    let v = by-family (get_or l a.i 0) (get_or l (a.i + 1) 0) (get_or l (a.i + 2) 0) a.b _ _ _ _ c.side_of-x.ensures c.without_of.ensures c.left_by-left.ensures c.stays_by.ensures in
    let e : stays_at a.b a.i l ≡ true = sym v.1 ∙ c.if-stays_by.true in
    rw e (refl, c.put.ensures ∙ ap (λ (m : ℕ). laid a.j (get_or l a.i 0) (get_or l (a.i + 1) 0) m l) v.0)

pub returns : goal.returns
returns c =
    let a = c.args in
    let l : List ℕ = a.fs.now in
    let v = by-family (get_or l a.i 0) (get_or l (a.i + 1) 0) (get_or l (a.i + 2) 0) a.b _ _ _ _ c.side_of-x.ensures c.without_of.ensures c.left_by-left.ensures c.stays_by.ensures in
    let e : stays_at a.b a.i l ≡ false = sym v.1 ∙ c.if-stays_by.false in
    rw e (refl, refl)
