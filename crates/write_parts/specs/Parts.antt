-- Lines that are added to a part of a text, one after the other, with the buffer that holds it.
use Rattle.std.specs.Prelude.{Bool, true, false, cond, not, ◌&&◌, List, [], ◌∷◌, ℕ, ◌+◌, ◌-◌, leb, eqb, length, drop}
use Rattle.write_pen.specs.Pen.{put}
use Rattle.write_parts.specs.declared.Part.{Part}

-- a part that stands so
abbrev pub standing : ℕ → ℕ → Bool → Part
standing skip given full = record { skip = skip; given = given; full = full }

-- nothing is given yet, and the text is passed over up to the byte `from`
unfoldable pub begun : ℕ → Part
begun from = standing from 0 false

-- so many bytes more fit behind those given
unfoldable pub fits : ℕ → ℕ → ℕ → Bool
fits len given more = leb (given + more) len

-- a part that is not full and has nothing left to pass over, so that a text of that many bytes at the most is put down whole
unfoldable pub open_for : ℕ → ℕ → Part → Bool
unfolding fits
open_for most len p = not p.full && (eqb p.skip 0 && fits len p.given most)

-- One line more. To a full part none is added; a line that is to be passed over is; any other is put behind those given, where it fits, without what of
-- it is to be passed over, and where it does not, the part is full.
unfoldable pub added : List ℕ → Part × List ℕ → Part × List ℕ
unfolding fits put
added l (p, out) =
    cond p.full (p, out)
    (cond (leb (length l) p.skip) (standing (p.skip - length l) p.given false, out)
    (cond (fits (length out) p.given (length l - p.skip))
    (standing 0 (p.given + (length l - p.skip)) false, put out p.given (drop p.skip l))
    (standing p.skip p.given true, out)))

-- lines, one after the other
unfoldable pub added_all : List (List ℕ) → Part × List ℕ → Part × List ℕ
unfolding added
added_all [] s = s
added_all (l ∷ ls) s = added_all ls (added l s)

-- no line of a text is longer: `PT `, 16 inputs, 64 states twice, 32 outputs, three spaces and LF
abbrev pub longest_line : ℕ
longest_line = 183
