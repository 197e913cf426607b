-- `code_drawing::draw_group` meets its contract: a group that asks nothing, one that stands, and a new one.
use Rattle.families.specs.Families.{without}
use Rattle.code_drawing.specs.Drawing.{family}
use Rattle.code_drawing.proofs.Groups.{with_none, with-stood, with-new}
use Rattle.code_drawing.proofs.Growing.{drew-none, drew-as}
use Prim.Native.Nat.{ℕ}
use mathlib.Core.Path.{sym, ap, ◌∙◌}
use mathlib.Core.List.{List, ◌++◌}
use native.Mathlib.Omega.{arith}
use lib.ListN.{take}
use Rattle.code_drawing.proofs.draw_group.Goals as goal

pub returns-then-not-is_asking : goal.returns-then-not-is_asking
returns-then-not-is_asking c =
    drew-as (drew-none c.args.fs.now c.args.at (omega arith)) (sym (with_none c.args.n _ c.args.g (sym c.is_asking.ensures ∙ c.if-not-is_asking.true)))

pub returns-then-stands : goal.returns-then-stands
returns-then-stands c =
    let asks = sym c.is_asking.ensures ∙ c.if-not-is_asking.false in
    let stood = sym c.stands.ensures ∙ c.if-stands.true in
    drew-as (drew-none c.args.fs.now c.args.at (omega arith)) (sym (with-stood c.args.n _ c.args.g asks stood))

pub returns : goal.returns
returns c =
    let front : List ℕ = take c.args.at c.args.fs.now in
    let asks = sym c.is_asking.ensures ∙ c.if-not-is_asking.false in
    let new = sym c.stands.ensures ∙ c.if-stands.false in
    drew-as c.put_family.ensures.1
    (ap (λ (o : ℕ). front ++ family c.args.g 0 o) (c.without_of.ensures ∙ ap (λ (m : ℕ). without m c.args.g) c.everyone_of.ensures)
    ∙ sym (with-new c.args.n front c.args.g asks new))
