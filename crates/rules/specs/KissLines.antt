-- 02, request 01: the lines of a KISS2 text. Which mark leads a line, what its fields have to be, and which row a line of a row is.
use Rattle.std.specs.Prelude.{Bool, true, false, ◌&&◌, not, cond, List, [], ◌∷◌, ℕ, suc, length, leb, eqb, Option, None}
use Rattle.rules.specs.Limits.{most_inputs, most_outputs, most_name}
use Rattle.rules.specs.Text.{bytes, same, nought, one, dash, dot, split, fields_of, field_at, sized, numeral_of}
use Rattle.rules.specs.declared.KissMark.{KissMark}

-- ---- marks

unfoldable pub dotted : List ℕ → Bool
dotted [] = false
dotted (x ∷ xs) = eqb x dot

-- any other field that begins with a dot is an unknown mark, and anything else begins a row
unfoldable pub kiss_mark : List ℕ → KissMark
unfolding same dotted
kiss_mark m =
    cond (same m (bytes ".i")) KissMark.Inputs
    (cond (same m (bytes ".o")) KissMark.Outputs
    (cond (same m (bytes ".s")) KissMark.States
    (cond (same m (bytes ".p")) KissMark.Products
    (cond (same m (bytes ".r")) KissMark.Reset
    (cond (same m (bytes ".e")) KissMark.End
    (cond (dotted m) KissMark.Unknown KissMark.Row))))))

-- ---- headers

-- `.i`, `.o`, `.s` and `.p`: one number behind the mark
unfoldable pub number_line : List ℕ → Option ℕ
unfolding split numeral_of
number_line l = cond (eqb (length (fields_of l)) 2) (numeral_of (field_at l 1)) None

-- ---- names

-- `*` is no name: as present state it is the whole group, as next state none
unfoldable pub is_star : List ℕ → Bool
unfolding same
is_star f = same f (bytes "*")

-- a field for a state is not empty
unfoldable pub is_filled : List ℕ → Bool
is_filled f = not (eqb (length f) 0)

-- a name of more than 31 bytes is 12
unfoldable pub is_short : List ℕ → Bool
is_short f = leb (length f) most_name

-- `.r name`
unfoldable pub reset_fits : List ℕ → Bool
unfolding split is_star is_filled
reset_fits l = eqb (length (fields_of l)) 2 && (is_filled (field_at l 1) && not (is_star (field_at l 1)))

-- ---- rows

-- input, present state, next state, outputs: i and o of `0 1 -`, and two states
unfoldable pub row_fields_fit : ℕ → ℕ → List ℕ → Bool
unfolding split sized is_filled
row_fields_fit i o l =
    eqb (length (fields_of l)) 4
    && (sized most_inputs i nought one dash (field_at l 0) && (is_filled (field_at l 1) && (is_filled (field_at l 2) && sized most_outputs o nought one dash (field_at l 3))))

-- ---- places

-- the place of the first entry of a list that has p; past the last where none has
unfoldable pub first_place : {A : Type 0} → (A → Bool) → List A → ℕ
first_place p [] = 0
first_place p (x ∷ xs) = elim (p x) [ true ↦ 0 | false ↦ suc (first_place p xs) ]
