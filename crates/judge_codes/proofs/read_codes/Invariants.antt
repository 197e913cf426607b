-- `judge_codes::read_codes` meets its contract: the codes from here on are the codes from the start.
use mathlib.Core.Path.{◌≡◌}
use Prim.Native.Nat.{◌-◌, ◌≤◌, min}
use lib.ListN.{length, drop}
use Rattle.rules.specs.Limits.{most_states}
use Rattle.rules.specs.Text.{lines_of}
use Rattle.rules.specs.CheckTexts.{codes_from, codes_reading}
use Rattle.judge_codes.proofs.read_codes.Given as goal

abbrev pub invariant-loop-s : goal.invariant-loop-s
invariant-loop-s l =
    (l.at ≤ length l.text) × (codes_from l.s (l.n - l.s) (record { width = l.width; table = l.table }) (lines_of (drop l.at l.text)) ≡ codes_reading (min l.states most_states) (lines_of l.text))
