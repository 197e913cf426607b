-- `read_fields::places_of` meets its contract: the characters from i on are in order, and the two masks stand for them.
use mathlib.Core.Path.{◌≡◌, sym, ◌∙◌}
use Prim.Native.Nat.{◌-◌}
use native.Mathlib.Omega.{arith}
use lib.ListN.{get_or}
use lib.Dec.{eqb}
use borrow.Author.Rules.{rules}
use Rattle.read_fields.proofs.Characters.{all_back, all_end}
use Rattle.read_fields.proofs.Sets.{digit-le, set_room, set_back, set-end, places-long, places-bad, places-good}
use Rattle.read_fields.proofs.places_of.Goals as goal

pub returns-then-f-gt64 : goal.returns-then-f-gt64
returns-then-f-gt64 c = sym (places-long _ _ _ _ c.if-f-gt64.true)

pub loop-i-init : goal.loop-i-init
loop-i-init c =
    let f = c.args.f.now in
    (search rules, search rules, all_end _ _ _ f, sym (set-end _ f), sym (set-end _ f))

pub returns-then-not-one_of : goal.returns-then-not-one_of
returns-then-not-one_of c =
    let l = c.loop-i in
    let a = c.args in
    sym (places-bad _ _ _ _ (l.i - 1) (all_back a.a a.b a.c a.f.now l.i (omega arith) l.invariant.0 (sym c.one_of.ensures ∙ c.if-not-one_of.true)))

pub overflow_mul-m : goal.overflow_mul-m
overflow_mul-m c =
    let l = c.loop-i in
    omega (arith, set_room _ _ l.i l.invariant.3 (omega arith) l.invariant.1)

pub overflow_add-m : goal.overflow_add-m
overflow_add-m c =
    let l = c.loop-i in
    let a = c.args in
    let d = digit-le (eqb (get_or a.f.now (l.i - 1) 0) a.b) in
    omega (arith, c.digit_of.ensures, set_room _ _ l.i l.invariant.3 (omega arith) l.invariant.1)

pub overflow_mul-n : goal.overflow_mul-n
overflow_mul-n c =
    let l = c.loop-i in
    omega (arith, set_room _ _ l.i l.invariant.4 (omega arith) l.invariant.1)

pub overflow_add-n : goal.overflow_add-n
overflow_add-n c =
    let l = c.loop-i in
    let a = c.args in
    let d = digit-le (eqb (get_or a.f.now (l.i - 1) 0) a.c) in
    omega (arith, c.digit_of-in-loop-i.ensures, set_room _ _ l.i l.invariant.4 (omega arith) l.invariant.1)

pub loop-i-preserved : goal.loop-i-preserved
loop-i-preserved c =
    let l = c.loop-i in
    let a = c.args in
    let k = all_back a.a a.b a.c a.f.now l.i (omega arith) l.invariant.0 (sym c.one_of.ensures ∙ c.if-not-one_of.false) in (
      search rules,
      search rules,
      k ∙ l.invariant.2,
      cc (set_back a.b a.f.now l.i (omega arith) l.invariant.0, c.digit_of.ensures, l.invariant.3),
      cc (set_back a.c a.f.now l.i (omega arith) l.invariant.0, c.digit_of-in-loop-i.ensures, l.invariant.4),
    )

pub returns : goal.returns
returns c =
    let l = c.loop-i in
    let z : l.i ≡ 0 = omega arith in
    places-good _ _ _ _ l.invariant.1 (rw z at l.invariant.2) (rw z at l.invariant.3) (rw z at l.invariant.4)
