-- `asks::set_of` meets its contract: the mask stands for the entries from i on.
use mathlib.Core.Path.{sym}
use Prim.Native.Nat.{◌-◌}
use native.Mathlib.Omega.{arith}
use lib.Dec.{eqb}
use lib.ListN.{get_or}
use borrow.Author.Rules.{rules}
use Rattle.read_fields.proofs.Sets.{digit-le, set_room, set_back, set-end}
use Rattle.read_flow.proofs.asks.set_of.Goals as goal

pub loop-i-init : goal.loop-i-init
loop-i-init c = (search rules, search rules, sym (set-end _ c.args.column.now))

pub overflow_mul-m : goal.overflow_mul-m
overflow_mul-m c =
    let l = c.loop-i in
    omega (arith, set_room _ _ l.i l.invariant.2 (omega arith) l.invariant.1)

pub overflow_add-m : goal.overflow_add-m
overflow_add-m c =
    let l = c.loop-i in
    let a = c.args in
    let d = digit-le (eqb (get_or a.column.now (l.i - 1) 0) a.d) in
    omega (arith, c.digit_of.ensures, set_room _ _ l.i l.invariant.2 (omega arith) l.invariant.1)

pub loop-i-preserved : goal.loop-i-preserved
loop-i-preserved c =
    let l = c.loop-i in
    let a = c.args in
    (search rules, search rules, cc (set_back a.d a.column.now l.i (omega arith) l.invariant.0, c.digit_of.ensures, l.invariant.2))
