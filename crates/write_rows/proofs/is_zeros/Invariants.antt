-- `write_rows::is_zeros` meets its contract: the bits that are still to come decide.
use mathlib.Core.Path.{◌≡◌}
use lib.ListN.{drop}
use Rattle.rules.specs.Cover.{next_code, zeros}
use Rattle.write_rows.proofs.is_zeros.Given as goal

abbrev pub invariant-loop-b : goal.invariant-loop-b
invariant-loop-b l = zeros (next_code (drop l.b-index l.bits) l.next) ≡ zeros (next_code l.bits l.next)
