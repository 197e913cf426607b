-- 02, request 10: the two texts that are checked, the codes and the cover. Each is read line by line from the top, and the first faulty line decides.
use Rattle.std.specs.Prelude.{Bool, true, false, ◌&&◌, cond, List, [], ◌∷◌, ℕ, zero, suc, ◌+◌, ◌*◌, leb, ltb, eqb, length, get_or, set, replicate, Result, Option, Ok, Err, Some, None}
use Rattle.sets.specs.Sets.{has}
use Rattle.rules.specs.Limits.{most_states, most_bits, most_checked}
use Rattle.rules.specs.Text.{bytes, dash, nought, one, same, split, fields_of, field_at, mark_of, all_of, sized, set_of, numeral_of}
use Rattle.rules.specs.Listing.{nothing}
use Rattle.rules.specs.Replay.{marked}
use Rattle.rules.specs.declared.Refusal.{Refusal}
use Rattle.rules.specs.declared.Refusal.TheVariants.{BadLine, Limit, Misfit}
use Rattle.rules.specs.Refusals.{Verdict, refused}
use Rattle.rules.specs.declared.CodeTable.{CodeTable}
use Rattle.rules.specs.declared.CoverPart.{CoverPart}
use Rattle.rules.specs.declared.CoverPart.TheVariants.{Inputs, Outputs, Kind, Products, Rows, Over}
use Rattle.rules.specs.declared.CoverHeads.{CoverHeads}
use Rattle.rules.specs.declared.Refused.{Refused}

-- ---- the codes: `SC state code` for each state, in order

-- a code of w bits, at most 64; one of no bits is one dash
unfoldable pub code_fits : ℕ → List ℕ → Bool
unfolding same sized
code_fits w f = elim w [ zero ↦ same f (dash ∷ []) | suc k ↦ sized most_bits (suc k) nought one one f ]

-- how many bits the first line shows
unfoldable pub width_in : List ℕ → ℕ
unfolding same split
width_in l = cond (same (field_at l 2) (dash ∷ [])) 0 (length (field_at l 2))

-- a field is the number s, written as in `MC`
unfoldable pub is_number : ℕ → List ℕ → Bool
unfolding numeral_of
is_number s f = elim (numeral_of f) [ Some v ↦ eqb v s | None ↦ false ]

-- the line of the state s, whose code has w bits
unfoldable pub code_good : ℕ → ℕ → List ℕ → Bool
unfolding split mark_of same is_number code_fits
code_good w s l = eqb (length (fields_of l)) 3 && (same (mark_of l) (bytes "SC") && (is_number s (field_at l 1) && code_fits w (field_at l 2)))

abbrev pub no_codes : CodeTable
no_codes = record { width = 0; table = replicate most_states 0 }

-- what the reader of codes gives: the codes, or the refusal and its line
abbrev pub CodesReading : Type 0
CodesReading = Result CodeTable Refused

abbrev pub with_code : ℕ → ℕ → CodeTable → CodeTable
with_code s code c = record { width = c.width; table = set c.table s code }

-- The lines of the states from s on, of which so many are to come: a bad one, one without LF, a missing one and bytes behind the last one are all 1, at
-- the line where the state's own stands or would stand.
unfoldable pub codes_from : ℕ → ℕ → CodeTable → List (List ℕ) → CodesReading
unfolding code_good nothing set_of split
codes_from s zero c ls = elim (nothing ls) [ true ↦ Ok c | false ↦ refused BadLine (s + 1) ]
codes_from s (suc k) c [] = refused BadLine (s + 1)
codes_from s (suc k) c (l ∷ []) = refused BadLine (s + 1)
codes_from s (suc k) c (l ∷ (m ∷ ms)) =
    elim (code_good c.width s l) [ true ↦ codes_from (s + 1) k (with_code s (set_of one (field_at l 2)) c) (m ∷ ms) | false ↦ refused BadLine (s + 1) ]

-- all codes are as long as the first
unfoldable pub codes_reading : ℕ → List (List ℕ) → CodesReading
unfolding width_in codes_from
codes_reading n ls = codes_from 0 n (record { width = width_in (get_or ls 0 []); table = replicate most_states 0 }) ls

-- bit k of some codes: the states whose code has 1 there, the first of them at digit 0
unfoldable pub bit_in : ℕ → List ℕ → ℕ
bit_in k [] = 0
bit_in k (c ∷ cs) = bit_in k cs * 2 + has c k

-- ---- the cover: `.i`, `.o`, `.type fd` or not, `.p`, that many rows, `.e`

-- a mark and a number behind it
unfoldable pub number_behind : List ℕ → List ℕ → Option ℕ
unfolding marked numeral_of split
number_behind mark l = cond (marked mark l) (numeral_of (field_at l 1)) None

-- k characters `0 1 -`, and not none
unfoldable pub places_fit : ℕ → List ℕ → Bool
unfolding all_of
places_fit k f = leb 1 k && (eqb (length f) k && all_of nought one dash f)

-- a row has as many as `.i` says, a space, and as many as `.o` says
unfoldable pub row_good : CoverHeads → List ℕ → Bool
unfolding split places_fit
row_good h l = eqb (length (fields_of l)) 2 && (places_fit h.inputs (field_at l 0) && places_fit h.outputs (field_at l 1))

abbrev pub no_heads : CoverHeads
no_heads = record { part = Inputs; inputs = 0; outputs = 0; products = 0; rows = 0 }

-- what each line makes of those before it
abbrev pub with_inputs : Option ℕ → CoverHeads → Result CoverHeads Refusal
with_inputs (Some v) h = Ok (record { part = Outputs; inputs = v; outputs = h.outputs; products = h.products; rows = h.rows })
with_inputs None h = Err BadLine

abbrev pub with_outputs : Option ℕ → CoverHeads → Result CoverHeads Refusal
with_outputs (Some v) h = Ok (record { part = Kind; inputs = h.inputs; outputs = v; products = h.products; rows = h.rows })
with_outputs None h = Err BadLine

abbrev pub with_products : Option ℕ → CoverHeads → Result CoverHeads Refusal
with_products (Some v) h = Ok (record { part = Rows; inputs = h.inputs; outputs = h.outputs; products = v; rows = h.rows })
with_products None h = Err BadLine

abbrev pub in_part : CoverPart → CoverHeads → CoverHeads
in_part p h = record { part = p; inputs = h.inputs; outputs = h.outputs; products = h.products; rows = h.rows }

abbrev pub with_row : CoverHeads → CoverHeads
with_row h = record { part = Rows; inputs = h.inputs; outputs = h.outputs; products = h.products; rows = h.rows + 1 }

-- a row: one more than `.p` says is 1, and the 257th is 2
unfoldable pub row_counted : CoverHeads → List ℕ → Result CoverHeads Refusal
unfolding row_good
row_counted h l =
    cond (row_good h l && ltb h.rows h.products)
    (cond (ltb h.rows most_checked) (Ok (with_row h)) (Err Limit))
    (Err BadLine)

-- `.e`, behind as many rows as `.p` says
unfoldable pub end_counted : CoverHeads → Result CoverHeads Refusal
end_counted h = cond (eqb h.rows h.products) (Ok (in_part Over h)) (Err BadLine)

unfoldable pub cover_line_in : CoverPart → CoverHeads → List ℕ → Result CoverHeads Refusal
unfolding number_behind same row_counted end_counted
cover_line_in Inputs h l = with_inputs (number_behind (bytes ".i") l) h
cover_line_in Outputs h l = with_outputs (number_behind (bytes ".o") l) h
cover_line_in Kind h l = cond (same l (bytes ".type fd")) (Ok (in_part Products h)) (with_products (number_behind (bytes ".p") l) h)
cover_line_in Products h l = with_products (number_behind (bytes ".p") l) h
cover_line_in Rows h l = cond (same l (bytes ".e")) (end_counted h) (row_counted h l)
cover_line_in Over h l = Err BadLine

unfoldable pub cover_line : CoverHeads → List ℕ → Result CoverHeads Refusal
unfolding cover_line_in
cover_line h l = cover_line_in h.part h l

-- 15: `.i` or `.o` does not fit, `.i` first
unfoldable pub fitting : ℕ → ℕ → CoverHeads → Verdict
fitting i o h = cond (eqb h.inputs i) (cond (eqb h.outputs o) (Ok tt) (refused Misfit 2)) (refused Misfit 1)

unfoldable pub is_over : CoverPart → Bool
is_over Inputs = false
is_over Outputs = false
is_over Kind = false
is_over Products = false
is_over Rows = false
is_over Over = true

-- what stands behind the last LF, as line k: nothing, behind `.e`
unfoldable pub cover_end : ℕ → ℕ → ℕ → CoverHeads → List ℕ → Verdict
unfolding fitting is_over
cover_end i o k h [] = cond (is_over h.part) (fitting i o h) (refused BadLine k)
cover_end i o k h (x ∷ xs) = refused BadLine k

-- the lines from number k on, behind those that said h, of a cover that has to have i inputs and o outputs
unfoldable pub cover_from : ℕ → ℕ → ℕ → CoverHeads → List (List ℕ) → Verdict
unfolding cover_end cover_line
cover_from i o k h [] = refused BadLine k
cover_from i o k h (l ∷ []) = cover_end i o k h l
cover_from i o k h (l ∷ (m ∷ ms)) = elim (cover_line h l) [ Ok g ↦ cover_from i o (k + 1) g (m ∷ ms) | Err r ↦ refused r k ]

unfoldable pub cover_reading : ℕ → ℕ → List (List ℕ) → Verdict
unfolding cover_from
cover_reading i o ls = cover_from i o 1 no_heads ls
