-- 01, "The listing": bytes, lines and fields, numbers and sets in a field.
use Rattle.std.specs.Prelude.{Bool, true, false, ◌&&◌, ◌||◌, not, cond, List, [], ◌∷◌, ◌++◌, ℕ, zero, suc, ◌+◌, ◌*◌, ◌-◌, ◌/◌, ◌%◌, length, get_or, leb, ltb, eqb, Option, Some, None}
use Prim.Native.Char.{code}
use Prim.Native.String.{String, [] as end, ◌∷◌ as ◌◃◌}
use Rattle.rules.specs.declared.Mark.{Mark}
use Rattle.rules.specs.declared.Mark.TheVariants.{Mc, Mo, Pt, Di, Ou, Ft, En, Unknown}

-- a text as bytes
abbrev pub bytes : String → List ℕ
bytes end = []
bytes (c ◃ s) = code c ∷ bytes s

-- the bytes that 01 gives a meaning
abbrev pub lf : ℕ
lf = 10

abbrev pub space : ℕ
space = 32

abbrev pub plus : ℕ
plus = 43

abbrev pub dash : ℕ
dash = 45

abbrev pub dot : ℕ
dot = 46

abbrev pub nought : ℕ
nought = 48

abbrev pub one : ℕ
one = 49

abbrev pub nine : ℕ
nine = 57

-- 1 for a test that holds, 0 for one that fails
abbrev pub digit : Bool → ℕ
digit true = 1
digit false = 0

-- the same bytes
unfoldable pub same : List ℕ → List ℕ → Bool
same [] [] = true
same [] (y ∷ ys) = false
same (x ∷ xs) [] = false
same (x ∷ xs) (y ∷ ys) = eqb x y && same xs ys

-- ---- lines, each ended by LF, and fields, parted by one space

abbrev pub push : ℕ → List (List ℕ) → List (List ℕ)
push x [] = (x ∷ []) ∷ []
push x (p ∷ ps) = (x ∷ p) ∷ ps

-- the bytes, parted at each q
unfoldable pub split : ℕ → List ℕ → List (List ℕ)
split q [] = [] ∷ []
split q (x ∷ xs) = cond (eqb x q) ([] ∷ split q xs) (push x (split q xs))

-- the lines, and what stands behind the last LF
abbrev pub lines_of : List ℕ → List (List ℕ)
lines_of l = split lf l

abbrev pub fields_of : List ℕ → List (List ℕ)
fields_of l = split space l

-- field k of a line, from 0
abbrev pub field_at : List ℕ → ℕ → List ℕ
field_at l k = get_or (fields_of l) k []

-- the mark is a line's whole first field
unfoldable pub mark_of : List ℕ → List ℕ
unfolding split
mark_of l = field_at l 0

unfoldable pub mark_is : List ℕ → Mark
unfolding same
mark_is m =
    cond (same m (bytes "MC")) Mc
    (cond (same m (bytes "MO")) Mo
    (cond (same m (bytes "PT")) Pt
    (cond (same m (bytes "DI")) Di
    (cond (same m (bytes "OU")) Ou
    (cond (same m (bytes "FT")) Ft
    (cond (same m (bytes "EN")) En Unknown))))))

-- ---- characters

-- each byte is one of three
unfoldable pub all_of : ℕ → ℕ → ℕ → List ℕ → Bool
all_of a b c [] = true
all_of a b c (x ∷ xs) = (eqb x a || (eqb x b || eqb x c)) && all_of a b c xs

-- a field of k characters, each one of three; k is at most `most`
unfoldable pub sized : ℕ → ℕ → ℕ → ℕ → ℕ → List ℕ → Bool
unfolding all_of
sized most k a b c f = leb (length f) most && (eqb (length f) k && all_of a b c f)

-- character j of a field is state j (or input j, or output j): the set of those whose character is c
unfoldable pub set_of : ℕ → List ℕ → ℕ
set_of c [] = 0
set_of c (x ∷ xs) = set_of c xs * 2 + digit (eqb x c)

-- ---- numbers

-- the digits of a field, behind those that made v
unfoldable pub digits_of : ℕ → List ℕ → Option ℕ
digits_of v [] = Some v
digits_of v (x ∷ xs) = cond (leb nought x && leb x nine) (digits_of (v * 10 + (x - nought)) xs) None

-- one to four digits, no leading zero except 0 itself
unfoldable pub numeral_of : List ℕ → Option ℕ
unfolding digits_of
numeral_of f = cond (leb 1 (length f) && leb (length f) 4 && (eqb (length f) 1 || not (eqb (get_or f 0 0) nought))) (digits_of 0 f) None

-- a number in decimal; the first argument bounds its digits
unfoldable pub decimal_in : ℕ → ℕ → List ℕ
decimal_in zero v = (nought + v % 10) ∷ []
decimal_in (suc f) v = elim (ltb v 10) [ true ↦ (nought + v) ∷ [] | false ↦ decimal_in f (v / 10) ++ ((nought + v % 10) ∷ []) ]

unfoldable pub decimal : ℕ → List ℕ
unfolding decimal_in
decimal v = decimal_in v v
