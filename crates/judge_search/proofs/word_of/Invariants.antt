-- `judge_search::word_of` meets its contract: the word stands for the rows from k on, and has room for as many digits as rows are left.
use mathlib.Core.Bool.{Bool}
use mathlib.Core.Path.{◌≡◌}
use Prim.Native.Nat.{ℕ, ◌+◌, ◌-◌, ◌^◌, ◌<◌}
use Rattle.judge_search.specs.Rows.{word_from}
use Rattle.judge_search.proofs.word_of.Given as goal

abbrev pub invariant-loop-k : goal.invariant-loop-k
invariant-loop-k g l =
    (l.word < 2 ^ (64 - l.k)) × ((p : ℕ → Bool) → ((k : ℕ) (b : Bool) → goal.F-post g l.test k b → b ≡ p k) → l.word ≡ word_from p (l.from + l.k) (64 - l.k))
