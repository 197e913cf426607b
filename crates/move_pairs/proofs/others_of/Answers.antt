-- `move_pairs::others_of` meets its contract.
use Prim.Native.Nat.{min}
use lib.Dec.{eqb}
use lib.Pow.{pow_pos, pow_mono}
use native.Mathlib.Nat.{lt_of_lt_of_le}
use borrow.Author.Tests.{eqb-true}
use Rattle.sets.specs.Sets.{has, flip, everyone}
use Rattle.move_halves.proofs.Moving.{member_below}
use Rattle.move_pairs.specs.Pairs.{others_of}
use Prim.Native.Nat.{ℕ, ◌≤◌, ◌<◌, ◌^◌}
use mathlib.Core.Path.{◌≡◌, refl, sym, ap, ◌∙◌}
use mathlib.Core.Bool.{true, false}
use native.Mathlib.Omega.{arith}
use Rattle.move_pairs.proofs.others_of.Goals as goal

all-lt : (n : ℕ) → everyone (min n 64) < 2 ^ 64
all-lt n =
    let h : everyone (min n 64) < 2 ^ min n 64 = omega (arith, pow_pos (min n 64)) in
    let l : min n 64 ≤ 64 = omega arith in
    lt_of_lt_of_le h (pow_mono l)

pub returns-else-member : goal.returns-else-member
unfolding others_of
returns-else-member c =
    let a = c.args in
    let e : eqb (has (everyone (min a.n 64)) a.s) 1 ≡ false = ap (λ (m : ℕ). eqb (has m a.s) 1) (sym c.everyone_of-everyone.ensures) ∙ sym c.member.ensures ∙ c.if-member.false in
    rw e refl

pub returns-then-member : goal.returns-then-member
unfolding others_of
returns-then-member c =
    let a = c.args in
    let e : eqb (has (everyone (min a.n 64)) a.s) 1 ≡ true = ap (λ (m : ℕ). eqb (has m a.s) 1) (sym c.everyone_of-everyone.ensures) ∙ sym c.member.ensures ∙ c.if-member.true in
    let l : a.s < 64 = member_below (everyone (min a.n 64)) a.s (all-lt a.n) (eqb-true (has (everyone (min a.n 64)) a.s) 1 e) in
    rw e (c.flipped.ensures.0 l ∙ ap (λ (m : ℕ). flip m a.s) c.everyone_of-everyone.ensures)
