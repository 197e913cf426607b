-- `code_least::table::fill_masks` meets its contract: the masks of the columns passed stand in the first places.
use mathlib.Core.Path.{◌≡◌}
use lib.ListN.{length}
use Rattle.sets.specs.Sets.{states_from}
use Rattle.rules.specs.Least.{column}
use Rattle.families.specs.Families.{requirements_in}
use Rattle.code_least.specs.Table.{mask_from}
use Rattle.code_least.proofs.Filling.{filled}
use Rattle.code_least.proofs.table.fill_masks.Given as goal

abbrev pub invariant-loop-v : goal.invariant-loop-v
invariant-loop-v l =
    (l.met ≡ filled (λ u. mask_from 0 (column l.n u) (requirements_in l.fs)) (states_from 0 (length l.initial.met)) l.initial.met l.v)
