-- `code_search::search_widths` meets its contract: no width that was passed has a code, and the places are as they came.
use mathlib.Core.Path.{◌≡◌}
use Prim.Native.Nat.{ℕ, ◌<◌}
use lib.ListN.{length}
use Rattle.rules.specs.Least.{codes_of, none, first_with}
use Rattle.code_search.specs.Search.{takes_all}
use Rattle.code_search.proofs.search_widths.Given as goal

abbrev pub invariant-loop-w : goal.invariant-loop-w
invariant-loop-w l =
    (l.columns ≡ l.initial.columns) × ((k : ℕ) → k < l.w → first_with (takes_all l.met l.left) (codes_of (length l.met) k) ≡ none)
