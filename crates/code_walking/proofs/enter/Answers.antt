-- `code_walking::enter` meets its contract. The loop's invariant: entering here is entering where it began.
use mathlib.Core.Bool.{◌&&◌, not}
use lib.Dec.{eqb}
use Rattle.code_walking.proofs.Ahead.{entered_here, entered-later, entered-over}
use Prim.Native.Nat.{ℕ, ◌+◌}
use mathlib.Core.Path.{sym, ap, ◌∙◌}
use native.Mathlib.Omega.{arith}
use lib.ListN.{get_or}
use Rattle.code_walking.proofs.enter.Goals as goal

pub returns-then-fs-lt3 : goal.returns-then-fs-lt3
returns-then-fs-lt3 c =
    let a = c.args in
    sym (entered-over a.fs.now a.from (omega arith))

pub returns-then-not-asks_none : goal.returns-then-not-asks_none
returns-then-not-asks_none c =
    let a = c.args in
    let at = c.loop-at.at in
    let is = c.without_of-rest.ensures in
    let none = ap (λ (x : ℕ). eqb x 0 && not (eqb (get_or a.fs.now (at + 2) 0) 0)) (sym is) ∙ sym c.asks_none.ensures ∙ c.if-not-asks_none.true in
    ap (λ (x : ℕ). record { at = at; rest = x }) is ∙ sym (entered_here a.fs.now at (omega arith) none) ∙ c.loop-at.invariant

pub loop-at-preserved : goal.loop-at-preserved
loop-at-preserved c =
    let a = c.args in
    let at = c.loop-at.at in
    let is = c.without_of-rest.ensures in
    let none = ap (λ (x : ℕ). eqb x 0 && not (eqb (get_or a.fs.now (at + 2) 0) 0)) (sym is) ∙ sym c.asks_none.ensures ∙ c.if-not-asks_none.false in
    sym (entered-later a.fs.now at (omega arith) none) ∙ c.loop-at.invariant

pub returns : goal.returns
returns c =
    let a = c.args in
    sym (entered-over a.fs.now c.loop-at.at (omega arith)) ∙ c.loop-at.invariant
