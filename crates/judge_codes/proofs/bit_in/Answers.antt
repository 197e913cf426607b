-- `judge_codes::bit_in` meets its contract: the bit stands for the states from s on.
use mathlib.Core.Path.{◌≡◌}
use native.Mathlib.Omega.{arith}
use lib.ListN.{length, get_or}
use Prim.Native.Nat.{◌-◌}
use Rattle.sets.proofs.Members.{has-lt}
use Rattle.judge_codes.proofs.Bits.{bit-room, bit-back, bit-end}
use Rattle.judge_codes.proofs.bit_in.Goals as goal

pub loop-s-init : goal.loop-s-init
loop-s-init c =
    let l : length c.args.table ≡ 64 = c.well_formed.0.1.0.1 in
    (c.requires, l, bit-end _ _ _ l c.requires)

pub overflow_mul-bit : goal.overflow_mul-bit
overflow_mul-bit c =
    let l = c.loop-s in
    omega (arith, bit-room _ _ _ l.s l.invariant.1 l.invariant.0 (omega arith) (omega arith) l.invariant.2)

pub overflow_add-bit : goal.overflow_add-bit
overflow_add-bit c =
    let l = c.loop-s in
    omega (arith, c.digit_at.ensures, has-lt (get_or c.args.table (l.s - 1) 0) c.args.k, bit-room _ _ _ l.s l.invariant.1 l.invariant.0 (omega arith) (omega arith) l.invariant.2)

pub loop-s-preserved : goal.loop-s-preserved
loop-s-preserved c =
    let l = c.loop-s in
    (l.invariant.0, l.invariant.1, bit-back _ _ _ l.s l.invariant.1 l.invariant.0 (omega arith) (omega arith) l.invariant.2 c.digit_at.ensures)
