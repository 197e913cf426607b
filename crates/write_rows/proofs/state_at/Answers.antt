-- `write_rows::state_at` meets its contract.
use mathlib.Core.Path.{ap, ◌∙◌}
use Prim.Native.Nat.{ℕ, min}
use Rattle.write_rows.proofs.Counted.{state-made}
use Rattle.write_rows.proofs.state_at.Goals as goal

pub returns : goal.returns
returns c =
    c.least.ensures ∙ ap (λ (k : ℕ). min k 63) c.saturating_sub.ensures ∙ state-made c.args.n c.args.k
