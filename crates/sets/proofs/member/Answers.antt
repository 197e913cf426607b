-- `sets::member` meets its contract: past the mask's width there is no member.
use mathlib.Core.Path.{sym, ap, ◌∙◌}
use Prim.Native.Nat.{ℕ}
use lib.Dec.{eqb}
use borrow.Author.Rules.{rules}
use borrow.Author.Tests.{le-ltb}
use Rattle.sets.proofs.Members.{has-high}
use Rattle.sets.proofs.member.Goals as goal

pub returns-else-s-lt64 : goal.returns-else-s-lt64
returns-else-s-lt64 c =
    le-ltb c.args.s 64 c.if-s-lt64.false
    ∙ sym (ap (λ (n : ℕ). eqb n 1) (has-high 64 c.args.m c.args.s (search rules) c.if-s-lt64.false))
