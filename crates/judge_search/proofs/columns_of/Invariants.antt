-- `judge_search::columns_of` meets its contract: the words that were passed are filled.
use mathlib.Core.Path.{◌≡◌}
use Prim.Native.Nat.{ℕ, ◌<◌}
use lib.ListN.{length, get_or}
use Rattle.judge_search.specs.Rows.{column_word}
use Rattle.judge_search.proofs.columns_of.Given as goal

abbrev pub invariant-loop-w : goal.invariant-loop-w
invariant-loop-w l = (length l.word-items ≡ 224) × ((k : ℕ) → k < l.w → get_or l.word-items k 0 ≡ column_word l.fires k)
