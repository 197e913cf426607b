-- 01, "Report and cover", and 02, requests 02 and 07: the face of a group (002), the rows that have a line, the cover's bytes, and when a row fires in the listing and in the cover.
use Rattle.std.specs.Prelude.{Bool, true, false, ◌&&◌, ◌||◌, not, cond, List, [], ◌∷◌, ◌++◌, map, ℕ, ◌+◌, length, eqb}
use Rattle.std.specs.Int.Bits.{bit_and}
use Rattle.sets.specs.Sets.{has, every, states_from}
use Rattle.rules.specs.Text.{bytes, digit, lf, space, dash, nought, one, decimal, field_at, split}
use Rattle.rules.specs.Listing.{with_head, all_rows, some, meets}
use Rattle.rules.specs.Requirements.{wholly}
use Rattle.rules.specs.Report.{digits, joined_lines}
use Rattle.rules.specs.declared.Row.{Row}
use Rattle.rules.specs.declared.Head.{Head}
use Rattle.rules.specs.declared.Listing.{Listing}

-- ---- the face

-- 0 or 1 where all the group's codes agree, a dash elsewhere
unfoldable pub face_at : ℕ → ℕ → ℕ → ℕ
unfolding wholly
face_at n g b = cond (wholly n b 0 g) nought (cond (wholly n b 1 g) one dash)

abbrev pub face : ℕ → List ℕ → ℕ → List ℕ
face n bits g = map (face_at n g) bits

-- ---- a row of the cover

-- input j as it stood in the listing
abbrev pub input_at : Row → ℕ → ℕ
input_at r j = cond (eqb (has r.input.dashes j) 1) dash (nought + has r.input.ones j)

-- the code of the next state, zeros if the row names none: a bit's digit is 1 where it has value 1 on the state named
abbrev pub next_code : List ℕ → ℕ → List ℕ
next_code bits next = map (λ b. digit (not (eqb (bit_and b next) 0))) bits

-- of output j a row says 1, or dash
abbrev pub says_one : ℕ → Row → Bool
says_one j r = eqb (has r.outputs.ones j) 1

abbrev pub says_dash : ℕ → Row → Bool
says_dash j r = eqb (has r.outputs.dashes j) 1

-- a row shares an input vector and a state with a row, earlier or later, that says 1 for output j
unfoldable pub shares_one : List Row → Row → ℕ → Bool
unfolding some meets
shares_one rs r j = some (λ q. meets r q && says_one j q) rs

-- output j of a row of these: a dash is carried through, but it is written 0 where the row shares with one that says 1
unfoldable pub output_at : List Row → Row → ℕ → ℕ
unfolding shares_one
output_at rs r j = cond (says_one j r) one (cond (says_dash j r && not (shares_one rs r j)) dash nought)

-- the input, the face, a space, the code of the next state, the outputs
unfoldable pub cover_row : Head → List ℕ → List Row → Row → List ℕ
unfolding face_at states_from output_at
cover_row h bits rs r =
    map (input_at r) (states_from 0 h.inputs)
    ++ (face h.states bits r.group
    ++ (space ∷ (digits (next_code bits r.next)
    ++ map (output_at rs r) (states_from 0 h.outputs))))

-- ---- the rows that have a line

-- digits that are all 0
unfoldable pub zeros : List ℕ → Bool
zeros [] = true
zeros (d ∷ ds) = eqb d 0 && zeros ds

-- a row says nothing: its next code is all zeros (it names no next state, or one whose code is all zeros, or there are no bits), and its outputs in the
-- listing are all `0`
unfoldable pub says_nothing : List ℕ → Row → Bool
unfolding zeros
says_nothing bits r = zeros (next_code bits r.next) && (eqb r.outputs.ones 0 && eqb r.outputs.dashes 0)

-- such a row is left out, unless every row is kept
unfoldable pub is_left_out : Head → List ℕ → Row → Bool
unfolding says_nothing
is_left_out h bits r = not h.keeps && says_nothing bits r

-- the others, in order
unfoldable pub printed_rows : Head → List ℕ → List Row → List Row
unfolding is_left_out
printed_rows h bits [] = []
printed_rows h bits (r ∷ rs) = elim (is_left_out h bits r) [ true ↦ printed_rows h bits rs | false ↦ r ∷ printed_rows h bits rs ]

-- the listing with the fifth number 1
abbrev pub keeping_all : Listing → Listing
keeping_all t =
    with_head (record { states = t.head.states; inputs = t.head.inputs; outputs = t.head.outputs; width = t.head.width; keeps = true; moore = t.head.moore }) t

-- ---- the cover

-- a mark, and a number of the whole cover
abbrev pub counted_line : List ℕ → ℕ → List ℕ
counted_line mark v = mark ++ (decimal v ++ (lf ∷ []))

-- `.i` (i + bits), `.o` (bits + o), `.type fd`, `.p` (the rows printed), a line for each of them in order, `.e`
unfoldable pub cover_lines : Listing → List ℕ → List (List ℕ)
unfolding cover_row decimal printed_rows all_rows
cover_lines t bits =
    let printed : List Row = printed_rows t.head bits (all_rows t) in
    counted_line (bytes ".i ") (t.head.inputs + length bits)
    ∷ (counted_line (bytes ".o ") (length bits + t.head.outputs)
    ∷ (bytes ".type fd\n"
    ∷ (counted_line (bytes ".p ") (length printed)
    ∷ (map (λ r. cover_row t.head bits (all_rows t) r ++ (lf ∷ [])) printed ++ (bytes ".e\n" ∷ [])))))

unfoldable pub cover : Listing → List ℕ → List ℕ
unfolding cover_lines joined_lines
cover t bits = joined_lines (cover_lines t bits)

-- ---- when a row fires

-- a row of the listing, at the input vector x (input j is digit j) and the state s
unfoldable pub fires : Head → Row → ℕ → ℕ → Bool
unfolding every
fires h r x s = every h.inputs (λ j. eqb (has r.input.dashes j) 1 || eqb (has r.input.ones j) (has x j)) && eqb (has r.group s) 1

-- characters against digits: a dash takes either
unfoldable pub takes : List ℕ → List ℕ → Bool
takes [] [] = true
takes [] (d ∷ ds) = false
takes (c ∷ cs) [] = false
takes (c ∷ cs) (d ∷ ds) = (eqb c dash || eqb c (nought + d)) && takes cs ds

-- the digits of the input vector x
abbrev pub vector : ℕ → ℕ → List ℕ
vector i x = map (has x) (states_from 0 i)

-- a line of a cover, at the digits of its inputs: the first of its two fields takes them
unfoldable pub line_fires : List ℕ → List ℕ → Bool
unfolding takes split
line_fires l ds = takes (field_at l 0) ds
