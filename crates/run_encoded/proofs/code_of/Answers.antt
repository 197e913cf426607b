-- `run_encoded::code_of` meets its contract.
use mathlib.Core.Path.{sym, ap, ◌∙◌}
use Prim.Native.Nat.{ℕ}
use Rattle.std.proofs.Common.{arith}
use Rattle.std.proofs.lemmas.Grind.{common_steps}
use Rattle.sets.proofs.Members.{shl_one}
use Rattle.run_encoded.specs.Terms.{some_at, mask_of, code_for}
use Rattle.run_encoded.proofs.Steps.{code-for}
use Rattle.run_encoded.proofs.code_of.Goals as goal

pub returns-then-bits-gt-MOST_BITS : goal.returns-then-bits-gt-MOST_BITS
unfolding code_for
returns-then-bits-gt-MOST_BITS c = grind (arith, common_steps)

pub returns : goal.returns
returns c =
    let a = c.args in
    c.some_mask.ensures ∙ ap (λ (m : ℕ). mask_of (some_at m) a.bits.now) (shl_one 64 a.s c.if-s-ge-MOST_STATES.false) ∙ sym (code-for a.bits.now a.s c.if-bits-gt-MOST_BITS.false c.if-s-ge-MOST_STATES.false)
