-- `tsurmokan::numbers::minus_of` meets its contract.
use mathlib.Core.Path.{ap, ◌∙◌}
use Prim.Native.Nat.{ℕ, ◌+◌, ◌*◌}
use native.Mathlib.Omega.{arith}
use lib.IntN.{pos, neg_ℤ}
use Rattle.rules.specs.Refusals.{minus}
use Rattle.tsurmokan.proofs.Minus.{minus_is}
use Rattle.tsurmokan.proofs.numbers.minus_of.Goals as goal

pub returns : goal.returns
unfolding minus
returns c =
    minus_is (c.number_of.result * 100000 + c.args.why.line) (omega arith) ∙ ap (λ (n : ℕ). neg_ℤ (pos (n * 100000 + c.args.why.line))) c.number_of.ensures
