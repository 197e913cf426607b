-- `write_cover::add_rows` meets its contract: with the lines of the rows that are still to come, what is added is all of them.
use mathlib.Core.Path.{◌≡◌}
use lib.ListN.{drop}
use Rattle.rules.specs.Listing.{all_rows}
use Rattle.rules.specs.Cover.{printed_rows}
use Rattle.write_parts.specs.Parts.{added_all}
use Rattle.write_parts.proofs.Adding.{Lent}
use Rattle.write_cover.specs.Covers.{row_texts}
use Rattle.write_cover.proofs.add_rows.Given as goal

abbrev pub invariant-loop-k : goal.invariant-loop-k
invariant-loop-k l =
    ◌≡◌ {A = Lent} (added_all (row_texts l.t.head l.bits (all_rows l.t) (printed_rows l.t.head l.bits (drop l.k (all_rows l.t)))) (l.to, l.out))
    (added_all (row_texts l.t.head l.bits (all_rows l.t) (printed_rows l.t.head l.bits (all_rows l.t))) (l.initial.to, l.initial.out))
