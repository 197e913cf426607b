-- `write_rows::row_at` meets its contract.
use mathlib.Core.Path.{sym, ap, ◌∙◌}
use Prim.Native.Nat.{ℕ, ◌<◌}
use native.Mathlib.Omega.{arith}
use Rattle.sets.proofs.Members.{shl_one}
use Rattle.rules.specs.Listing.{state_row}
use Rattle.write_rows.proofs.Counted.{at_before, at-behind, state-few}
use Rattle.write_rows.proofs.row_at.Goals as goal

pub returns-then-k-n : goal.returns-then-k-n
returns-then-k-n c = sym (at_before _ _ _ _ c.if-k-n.true)

pub overflow_shl-group : goal.overflow_shl-group
overflow_shl-group c = let a = c.args in omega (arith, c.state_at.ensures, state-few a.n a.k)

pub returns : goal.returns
returns c =
    let a = c.args in
    let few : c.state_at.result < 64 = omega (arith, c.state_at.ensures, state-few a.n a.k) in
    ap (λ (g : ℕ). record { input = record { ones = 0; dashes = 65535 }; group = g; next = 0; outputs = a.outputs; line = 0 }) (shl_one 64 c.state_at.result few)
    ∙ ap (λ (s : ℕ). state_row s a.outputs) c.state_at.ensures
    ∙ sym (at-behind a.n a.k a.row a.outputs c.if-k-n.false)
