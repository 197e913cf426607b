-- `read_pieces::cut` meets its contract: the piece's end, seen from i, is the end seen from the start.
use mathlib.Core.Path.{◌≡◌}
use Rattle.read_pieces.specs.Pieces.{end_of}
use Rattle.read_pieces.proofs.cut.Given as goal

abbrev pub invariant-loop-i : goal.invariant-loop-i
invariant-loop-i l = end_of l.q l.l l.i ≡ end_of l.q l.l l.at
