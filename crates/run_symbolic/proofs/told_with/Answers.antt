-- `run_symbolic::told_with` meets its contract.
use mathlib.Core.Path.{sym, ap, ◌∙◌}
use Prim.Native.Nat.{ℕ}
use lib.Bits.{bit_or}
use Rattle.run_symbolic.specs.declared.Told.{Told}
use Rattle.run_symbolic.proofs.Steps.{with-firing}
use Rattle.run_symbolic.proofs.told_with.Goals as goal

pub returns-then-not-is_firing : goal.returns-then-not-is_firing
returns-then-not-is_firing c =
    let a = c.args in
    sym (with-firing a.head a.x a.s a.told a.row (sym c.is_firing.ensures ∙ c.if-not-is_firing.true))

pub returns : goal.returns
returns c =
    let a = c.args in
    ap {B = Told} (λ (n : ℕ). record { next = n; ones = bit_or a.told.ones a.row.outputs.ones; dashes = bit_or a.told.dashes a.row.outputs.dashes }) c.first_named.ensures
    ∙ sym (with-firing a.head a.x a.s a.told a.row (sym c.is_firing.ensures ∙ c.if-not-is_firing.false))
