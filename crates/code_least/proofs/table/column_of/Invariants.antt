-- `code_least::table::column_of` meets its contract: so many digits are turned.
use mathlib.Core.Path.{◌≡◌}
use Rattle.rules.specs.Least.{turned}
use Rattle.code_least.proofs.table.column_of.Given as goal

abbrev pub invariant-loop-k : goal.invariant-loop-k
invariant-loop-k l =
    l.b ≡ turned l.k l.v
