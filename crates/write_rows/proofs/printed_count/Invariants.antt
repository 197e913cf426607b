-- `write_rows::printed_count` meets its contract: the rows that are still to come have the rest of the lines.
use mathlib.Core.Path.{◌≡◌}
use Prim.Native.Nat.{◌+◌}
use lib.ListN.{length, drop}
use Rattle.rules.specs.Listing.{all_rows}
use Rattle.rules.specs.Cover.{printed_rows}
use Rattle.write_rows.proofs.printed_count.Given as goal

abbrev pub invariant-loop-k : goal.invariant-loop-k
invariant-loop-k l = l.count + length (printed_rows l.t.head l.bits (drop l.k (all_rows l.t))) ≡ length (printed_rows l.t.head l.bits (all_rows l.t))
