-- `read_kiss::read_lines` meets its contract: the lines from number k on, behind those that made d, say what all the lines say.
use Rattle.rules.specs.Text.{lf, lines_of}
use Rattle.rules.specs.Kiss.{no_draft}
use Rattle.read_pieces.proofs.Laws.{Cut}
use Rattle.read_kiss_rows.specs.Drafts.{draft_in}
use Rattle.read_kiss_rows.proofs.Meant.{Room}
use Rattle.read_kiss.specs.Walks.{walked}
use Prim.Native.Nat.{◌≤◌, ◌<◌, ◌-◌, ◌+◌}
use mathlib.Core.Path.{◌≡◌}
use lib.ListN.{length, drop}
use Rattle.read_kiss.proofs.read_lines.Given as goal

abbrev pub invariant-loop-end : goal.invariant-loop-end
invariant-loop-end l = Cut lf l.s l.at l.end × (l.k ≤ l.at + 1) × (walked l.k (draft_in l.s l.d) (lines_of (drop l.at l.s)) ≡ walked 1 no_draft (lines_of l.s)) × Room l.d × (l.d.heads.lines < l.k)

abbrev pub decreases-loop-end : goal.decreases-loop-end
decreases-loop-end l = length l.s - l.at
