-- `stable::goes_well` meets its contract: the columns from c on decide what all columns do.
use mathlib.Core.Path.{◌≡◌, sym, ap, ◌∙◌}
use mathlib.Core.Bool.{true, false}
use mathlib.Core.List.{List}
use Prim.Native.Nat.{ℕ}
use native.Mathlib.Omega.{arith}
use Rattle.read_flow.specs.Table.{column_in, goes_well_in}
use Rattle.read_flow.proofs.Tables.{column-part, well-not, well-on, well-done}
use Rattle.read_flow.proofs.stable.goes_well.Goals as goal

pub returns-then-not-goes_well_in : goal.returns-then-not-goes_well_in
returns-then-not-goes_well_in c =
    let l = c.loop-c in
    let a = c.args in
    let e : goes_well_in (column_in a.table.now a.n l.c) a.s ≡ false =
    ap (λ (x : List ℕ). goes_well_in x a.s) (sym (column-part a.table.now a.n l.c)) ∙ sym c.goes_well_in.ensures ∙ c.if-not-goes_well_in.true in
    sym (well-not a.table.now a.n l.c a.columns a.s (omega arith) e) ∙ l.invariant

pub loop-c-preserved : goal.loop-c-preserved
loop-c-preserved c =
    let l = c.loop-c in
    let a = c.args in
    let e : goes_well_in (column_in a.table.now a.n l.c) a.s ≡ true =
    ap (λ (x : List ℕ). goes_well_in x a.s) (sym (column-part a.table.now a.n l.c)) ∙ sym c.goes_well_in.ensures ∙ c.if-not-goes_well_in.false in
    sym (well-on a.table.now a.n l.c a.columns a.s (omega arith) e) ∙ l.invariant

pub returns : goal.returns
returns c =
    let l = c.loop-c in
    let a = c.args in
    sym (well-done a.table.now a.n l.c a.columns a.s (omega arith)) ∙ l.invariant
