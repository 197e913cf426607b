-- `judge_search::sure_of` meets its contract: with the inputs that are left, the rows are those of the start.
use mathlib.Core.Path.{◌≡◌}
use Prim.Native.Nat.{◌*◌, ◌-◌}
use Rattle.judge_search.specs.Search.{sure_words}
use Rattle.judge_search.proofs.sure_of.Given as goal

abbrev pub invariant-loop-j : goal.invariant-loop-j
invariant-loop-j l = sure_words l.sure l.cols (l.j * 14) (l.inputs - l.j) ≡ sure_words l.initial.sure l.cols 0 l.inputs
