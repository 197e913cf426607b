-- `read_pieces::field` meets its contract: as many fields on as are left, the line from `at` on has field k of the line.
use mathlib.Core.Path.{◌≡◌}
use Prim.Native.Nat.{◌-◌}
use lib.ListN.{drop}
use Rattle.rules.specs.Text.{space, field_at}
use Rattle.read_pieces.proofs.Laws.{Cut}
use Rattle.read_pieces.proofs.field.Given as goal

abbrev pub invariant-loop-before : goal.invariant-loop-before
invariant-loop-before l = Cut space l.l l.at l.end × (field_at (drop l.at l.l) (l.k - l._before) ≡ field_at l.l l.k)
