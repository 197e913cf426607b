-- The rows of a listing, and the lines of a cover, as numbers, and the tables in which they stand.
use Rattle.std.specs.Prelude.{◌&&◌, ◌||◌, cond, List, [], ◌∷◌, map, ℕ, suc, ◌+◌, ◌*◌, eqb, leb, ltb, length, take, drop, get_or, set}
use Rattle.std.specs.Int.Count.{count_trailing_zeros}
use Rattle.sets.specs.Sets.{has, every}
use Rattle.rules.specs.Limits.{most_states}
use Rattle.rules.specs.Text.{digit, nought, one, dash, split, field_at, all_of, set_of}
use Rattle.rules.specs.declared.Row.{Row}
use Rattle.judge_search.specs.declared.Said.{Said}
use Rattle.judge_search.specs.Rows.{all_row_places}
use Rattle.judge_search.specs.declared.Firing.{Firing}
use Rattle.judge_rows.specs.declared.Marks.{Marks}

-- ---- a table

-- some numbers one behind the other
unfoldable pub laid_at : ℕ → List ℕ → List ℕ → List ℕ
laid_at at [] l = l
laid_at at (x ∷ xs) l = laid_at (at + 1) xs (set l at x)

-- of each row so many, from that row on
unfoldable pub laid : ℕ → ℕ → List (List ℕ) → List ℕ → List ℕ
unfolding laid_at
laid w r [] l = l
laid w r (e ∷ es) l = laid w (suc r) es (laid_at (r * w) e l)

abbrev pub firing_list : Firing → List ℕ
firing_list f = f.ones ∷ (f.dashes ∷ (f.states ∷ []))

abbrev pub saying_list : Said → List ℕ
saying_list s = s.a ∷ (s.b ∷ (s.c ∷ (s.d ∷ [])))

-- ---- a row of a listing

-- the code of the state named
unfoldable pub code_at : List ℕ → ℕ → ℕ
unfolding count_trailing_zeros
code_at codes next = cond (eqb next 0) 0 (get_or codes (count_trailing_zeros most_states next) 0)

unfoldable pub row_firing : Row → Firing
row_firing r = record { ones = r.input.ones; dashes = r.input.dashes; states = r.group }

unfoldable pub row_saying : List ℕ → Row → Said
unfolding code_at
row_saying codes r = record { a = r.next; b = code_at codes r.next; c = r.outputs.ones; d = r.outputs.dashes }

-- some rows in both tables, from that row on
unfoldable pub listing_laid : List ℕ → ℕ → List Row → List ℕ × List ℕ → List ℕ × List ℕ
unfolding laid row_firing row_saying
listing_laid codes r rows t = (laid 3 r (map (λ q. firing_list (row_firing q)) rows) t.0, laid 4 r (map (λ q. saying_list (row_saying codes q)) rows) t.1)

-- ---- a line of a cover

-- some of its characters; more than 64 say nothing
unfoldable pub marks_of : List ℕ → Marks
unfolding all_of set_of
marks_of f = cond (leb (length f) 64 && all_of nought one dash f) (record { ones = set_of one f; dashes = set_of dash f }) (record { ones = 0; dashes = 0 })

-- characters take a code: at each bit they have a dash, or its digit
unfoldable pub takes_digit : Marks → ℕ → ℕ
unfolding every
takes_digit p code = digit (every 64 (λ k. eqb (has p.dashes k) 1 || eqb (has p.ones k) (has code k)))

-- the states whose codes they take, the first of them at digit 0
unfoldable pub states_taking : Marks → List ℕ → ℕ
unfolding takes_digit
states_taking p [] = 0
states_taking p (c ∷ cs) = states_taking p cs * 2 + takes_digit p c

-- of i inputs, and the codes of some states
unfoldable pub line_firing : ℕ → List ℕ → List ℕ → Firing
unfolding split marks_of states_taking
line_firing i codes l =
    let inputs : Marks = marks_of (take i (field_at l 0)) in
    record { ones = inputs.ones; dashes = inputs.dashes; states = states_taking (marks_of (drop i (field_at l 0))) codes }

-- of so many bits
unfoldable pub line_saying : ℕ → List ℕ → Said
unfolding split marks_of
line_saying w l =
    let next : Marks = marks_of (take w (field_at l 1)) in
    let outputs : Marks = marks_of (drop w (field_at l 1)) in
    record { a = next.ones; b = next.dashes; c = outputs.ones; d = outputs.dashes }

-- in both tables
unfoldable pub line_laid : ℕ → List ℕ → ℕ → ℕ → List ℕ → List ℕ × List ℕ → List ℕ × List ℕ
unfolding laid line_firing line_saying
line_laid i codes w r l t =
    cond (ltb r all_row_places) (laid 3 r (firing_list (line_firing i codes l) ∷ []) t.0, laid 4 r (saying_list (line_saying w l) ∷ []) t.1) t
