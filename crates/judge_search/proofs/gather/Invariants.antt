-- `judge_search::gather` meets its contract: with the words that are left, what is said is what it was at the start.
use mathlib.Core.Path.{◌≡◌}
use Prim.Native.Nat.{◌-◌}
use Rattle.judge_search.specs.Search.{gathered_words}
use Rattle.judge_search.proofs.gather.Given as goal

abbrev pub invariant-loop-q : goal.invariant-loop-q
invariant-loop-q l = gathered_words l.says l.rows l.q (l.to - l.q) l.all ≡ gathered_words l.says l.rows l.from (l.to - l.from) l.initial.all
