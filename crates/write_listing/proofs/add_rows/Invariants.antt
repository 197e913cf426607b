-- `write_listing::add_rows` meets its contract. The loop's invariant: what is added is the lines of the rows passed.
use mathlib.Core.Path.{◌≡◌}
use lib.ListN.{take}
use Rattle.write_parts.specs.Parts.{added_all}
use Rattle.write_parts.proofs.Adding.{Lent}
use Rattle.write_listing.specs.Listings.{row_lines}
use Rattle.write_listing.proofs.add_rows.Given as goal

abbrev pub invariant-loop-row : goal.invariant-loop-row
invariant-loop-row l =
    ◌≡◌ {A = Lent} (l.to, l.out) (added_all (row_lines l.fn.t.head (take l.row-index l.row-items)) (l.initial.to, l.initial.out))
