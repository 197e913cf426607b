-- `judge_search::gather_word` meets its contract: with the rows that are left, what is said is what it was at the start.
use mathlib.Core.Path.{◌≡◌}
use Prim.Native.Nat.{◌<◌, ◌^◌}
use Rattle.sets.specs.Sets.{size}
use Rattle.judge_search.specs.Search.{gathered_word}
use Rattle.judge_search.proofs.gather_word.Given as goal

abbrev pub invariant-loop-left : goal.invariant-loop-left
invariant-loop-left l = (l.left < 2 ^ 64) × (gathered_word l.says l.from 64 l.left l.all ≡ gathered_word l.says l.from 64 l.rows l.initial.all)

abbrev pub decreases-loop-left : goal.decreases-loop-left
decreases-loop-left l = size l.left
