-- `read_flow::read_lines` meets its contract: the lines from number k on, with the table filled so far, say what all lines say.
use mathlib.Core.Path.{◌≡◌}
use Prim.Native.Nat.{◌≤◌, ◌-◌}
use lib.ListN.{length}
use Rattle.rules.specs.Text.{lf, lines_of}
use Rattle.rules.specs.FlowLines.{column_count}
use Rattle.read_pieces.proofs.Laws.{Cut}
use Rattle.read_flow.proofs.Filling.{Filling}
use Rattle.read_flow.proofs.read_lines.Given as goal

abbrev pub invariant-loop-end : goal.invariant-loop-end
invariant-loop-end l =
    Cut lf l.s l.at l.end × (l.n ≡ l.h.states) × (l.columns ≡ column_count (lines_of l.s)) × (1 ≤ l.h.states) × (l.h.states ≤ 64) × Filling l.h l.s (column_count (lines_of l.s)) l.table l.k l.at

abbrev pub decreases-loop-end : goal.decreases-loop-end
decreases-loop-end l = length l.s - l.at
