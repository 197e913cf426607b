-- `read_listing::read_lines` meets its contract: the lines from number k on, behind those that made t, say what all the lines say.
use mathlib.Core.Path.{◌≡◌}
use Prim.Native.Nat.{◌+◌, ◌-◌, ◌≤◌}
use lib.ListN.{length, drop}
use Rattle.rules.specs.Text.{lf, lines_of}
use Rattle.rules.specs.Listing.{blank, read_lines}
use Rattle.read_pieces.proofs.Laws.{Cut}
use Rattle.read_listing.proofs.Room.{Few}
use Rattle.read_listing.proofs.read_lines.Given as goal

abbrev pub invariant-loop-end : goal.invariant-loop-end
invariant-loop-end l = Cut lf l.s l.at l.end × (l.k ≤ l.at + 1) × (read_lines l.k l.t (lines_of (drop l.at l.s)) ≡ read_lines 1 blank (lines_of l.s)) × Few l.t

abbrev pub decreases-loop-end : goal.decreases-loop-end
decreases-loop-end l = length l.s - l.at
