-- `judge_codes::bit_in` meets its contract: the bit stands for the states from s on.
use mathlib.Core.Path.{◌≡◌}
use Prim.Native.Nat.{◌≤◌}
use lib.ListN.{length, take, drop}
use Rattle.rules.specs.CheckTexts.{bit_in}
use Rattle.judge_codes.proofs.bit_in.Given as goal

abbrev pub invariant-loop-s : goal.invariant-loop-s
invariant-loop-s l = (l.states ≤ 64) × (length l.table ≡ 64) × (l.bit ≡ bit_in l.k (drop l.s (take l.states l.table)))
