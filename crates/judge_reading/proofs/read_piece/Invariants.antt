-- `judge_reading::read_piece` meets its contract: from here on it is what it is from the start.
use mathlib.Core.Path.{◌≡◌}
use Prim.Native.Nat.{◌-◌}
use lib.ListN.{length, drop}
use Rattle.rules.specs.Text.{lf, lines_of}
use Rattle.read_pieces.proofs.Laws.{Cut}
use Rattle.judge_reading.specs.Pieces.{last_of, whole_reached, whole_tables}
use Rattle.judge_reading.proofs.read_piece.Given as goal

abbrev pub invariant-loop-end : goal.invariant-loop-end
invariant-loop-end l =
    Cut lf l.piece l.at l.end
    × (last_of (lines_of (drop l.at l.piece)) ≡ last_of (lines_of l.piece))
    × (whole_reached l.reached (lines_of (drop l.at l.piece)) ≡ whole_reached l.initial.reached (lines_of l.piece))
    × (whole_tables l.q l.reached (lines_of (drop l.at l.piece)) (l.fires, l.says) ≡ whole_tables l.q l.initial.reached (lines_of l.piece) (l.initial.fires, l.initial.says))

abbrev pub decreases-loop-end : goal.decreases-loop-end
decreases-loop-end l = length l.piece - l.at
