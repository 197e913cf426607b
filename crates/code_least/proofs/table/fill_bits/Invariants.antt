-- `code_least::table::fill_bits` meets its contract: the bits of the columns passed stand in the first places.
use mathlib.Core.Path.{◌≡◌}
use Rattle.rules.specs.Least.{column}
use Rattle.code_least.proofs.Filling.{filled}
use Rattle.code_least.proofs.table.fill_bits.Given as goal

abbrev pub invariant-loop-k : goal.invariant-loop-k
invariant-loop-k l =
    (l.bits ≡ filled (column l.n) l.code l.initial.bits l.k)
