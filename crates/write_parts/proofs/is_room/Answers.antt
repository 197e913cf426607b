-- `write_parts::is_room` meets its contract.
use mathlib.Core.Path.{◌≡◌, refl, sym, ◌∙◌}
use mathlib.Core.Bool.{Bool, true, false}
use Prim.Native.Nat.{ℕ, ◌+◌, ◌-◌, ◌≤◌}
use native.Mathlib.Omega.{arith}
use lib.Dec.{leb}
use borrow.Author.Tests.{le-leb, lt-leb, leb-true, leb-false}
use Rattle.write_parts.specs.Parts.{fits}
use Rattle.write_parts.proofs.is_room.Goals as goal

-- what is left is enough exactly where the sum fits
left-fits : (len given more : ℕ) → given ≤ len → leb more (len - given) ≡ leb (given + more) len
left-fits len given more h = go (leb more (len - given)) refl
  where
    go : (b : Bool) → leb more (len - given) ≡ b → leb more (len - given) ≡ leb (given + more) len
    go true e = e ∙ sym (le-leb (given + more) len (omega (arith, leb-true more (len - given) e)))
    go false e = e ∙ sym (lt-leb (given + more) len (omega (arith, leb-false more (len - given) e)))

pub returns-then-given-len : goal.returns-then-given-len
unfolding fits
returns-then-given-len c = left-fits c.args.len c.args.given c.args.more (omega arith)

pub returns-else-given-len : goal.returns-else-given-len
unfolding fits
returns-else-given-len c =
    lt-leb c.args.given c.args.len (omega arith) ∙ sym (lt-leb (c.args.given + c.args.more) c.args.len (omega arith))
