-- `judge_rows::states_taking` meets its contract: the set stands for the states from s on.
use mathlib.Core.Path.{◌≡◌}
use Prim.Native.Nat.{◌≤◌}
use lib.ListN.{length, take, drop}
use Rattle.judge_rows.specs.Rows.{states_taking}
use Rattle.judge_rows.proofs.states_taking.Given as goal

abbrev pub invariant-loop-s : goal.invariant-loop-s
invariant-loop-s l =
    (l.states ≤ 64) × (length l.codes ≡ 64) × (l.set ≡ states_taking l.p (drop l.s (take l.states l.codes)))
