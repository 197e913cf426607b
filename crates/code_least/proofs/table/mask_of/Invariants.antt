-- `code_least::table::mask_of` meets its contract: the mask from here on is the mask from the start, and each requirement still to come has room for its digit.
use mathlib.Core.Path.{◌≡◌}
use lib.ListN.{length}
use Rattle.families.specs.Families.{requirements_in}
use Rattle.code_walking.specs.Walking.{left}
use Rattle.code_least.specs.Table.{mask_from}
use Rattle.code_least.proofs.Masks.{Room}
use Rattle.code_least.proofs.table.mask_of.Given as goal

abbrev pub invariant-loop-r : goal.invariant-loop-r
invariant-loop-r l =
    Room l.m (length (left l.r-iterator)) × (mask_from l.m l.b (left l.r-iterator) ≡ mask_from 0 l.b (requirements_in l.fs))
