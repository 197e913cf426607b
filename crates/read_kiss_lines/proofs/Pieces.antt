-- Where the fields of a line stand: that a place is within the line or next to it, and that the piece of a field is the field.
use mathlib.Core.Path.{◌≡◌, refl}
use mathlib.Core.List.{List}
use Prim.Native.Nat.{ℕ, max, ◌+◌, ◌≤◌}
use native.Mathlib.Omega.{arith}
use lib.ListN.{length, drop, length-drop}
use Rattle.rules.specs.Text.{space}
use Rattle.read_pieces.specs.Pieces.{end_of}
use Rattle.read_pieces.proofs.Laws.{first_of}
use Rattle.read_kiss_lines.specs.Says.{field_start, field_piece, state_pieces}

pub end-within : (q : ℕ) (l : List ℕ) (at : ℕ) → end_of q l at ≤ max at (length l)
unfolding end_of
end-within q l at = omega (arith, (first_of q (drop at l)).to, length-drop at l)

pub pieces-by : (l : List ℕ) {a b c : ℕ} → a ≡ end_of space l 0 → b ≡ end_of space l (a + 1) → c ≡ end_of space l (b + 1)
    → record { present = record { start = a + 1; end = b }; next = record { start = b + 1; end = c } } ≡ state_pieces l
unfolding state_pieces field_piece field_start
pieces-by l e f g = rw (g, f, e)

-- the piece of a name behind the mark
pub reset-piece : (l : List ℕ) → field_piece l 1 ≡ record { start = end_of space l 0 + 1; end = end_of space l (end_of space l 0 + 1) }
unfolding field_piece field_start
reset-piece l = refl

pub ruleset names = (reset-piece, end-within)
