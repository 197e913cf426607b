-- 01, "The listing", written: the text of a listing of rows alone under `MC`, line by line. Dichotomies and the outputs of states are not written: a
-- listing that was made from a text of another form, as KISS2 is (02, request 01), has none.
use Rattle.std.specs.Prelude.{Bool, true, false, cond, List, [], ◌∷◌, ◌++◌, map, ℕ, ◌+◌, ◌-◌, eqb, length, replicate}
use Rattle.sets.specs.Sets.{has, states_from}
use Rattle.rules.specs.Limits.{most_states, most_rows, most_dichotomies}
use Rattle.rules.specs.Text.{bytes, lf, space, dash, nought, decimal}
use Rattle.rules.specs.Listing.{no_pattern, no_row, no_requirement, rows_of}
use Rattle.rules.specs.Report.{joined_lines}
use Rattle.rules.specs.declared.Head.{Head}
use Rattle.rules.specs.declared.Pattern.{Pattern}
use Rattle.rules.specs.declared.Row.{Row}
use Rattle.rules.specs.declared.Listing.{Listing}

-- ---- fields

-- character j of a pattern: a dash, or its digit
abbrev pub pattern_mark : Pattern → ℕ → ℕ
pattern_mark p j = cond (eqb (has p.dashes j) 1) dash (nought + has p.ones j)

-- a pattern of k characters
unfoldable pub pattern_field : ℕ → Pattern → List ℕ
unfolding states_from
pattern_field k p = map (pattern_mark p) (states_from 0 k)

-- a set of n states: 1 at each member
unfoldable pub set_field : ℕ → ℕ → List ℕ
unfolding states_from
set_field n m = map (λ s. nought + has m s) (states_from 0 n)

-- ---- lines, without their LF

-- the fifth number with its space: 1 where every row is kept, and else none
unfoldable pub fifth_text : Bool → List ℕ
fifth_text true = bytes " 1"
fifth_text false = []

-- `MC n i o w`, or `MC n i o w 1`
unfoldable pub head_text : Head → List ℕ
unfolding decimal fifth_text
head_text h =
    bytes "MC "
    ++ (decimal h.states ++ (space ∷ (decimal h.inputs ++ (space ∷ (decimal h.outputs ++ (space ∷ (decimal h.width ++ fifth_text h.keeps)))))))

-- `PT input group next outputs`
unfoldable pub row_text : Head → Row → List ℕ
unfolding pattern_field set_field
row_text h r =
    bytes "PT "
    ++ (pattern_field h.inputs r.input
    ++ (space ∷ (set_field h.states r.group ++ (space ∷ (set_field h.states r.next ++ (space ∷ pattern_field h.outputs r.outputs))))))

-- ---- the whole

-- the head, a line for each row in order, and the end
unfoldable pub listing_lines : Listing → List (List ℕ)
unfolding head_text row_text
listing_lines t = (head_text t.head ++ (lf ∷ [])) ∷ (map (λ r. row_text t.head r ++ (lf ∷ [])) (rows_of t) ++ (bytes "EN\n" ∷ []))

unfoldable pub listing_text : Listing → List ℕ
unfolding listing_lines joined_lines
listing_text t = joined_lines (listing_lines t)

-- ---- what it reads back to

-- a row on the line k
abbrev pub on_line : ℕ → Row → Row
on_line k r = record { input = r.input; group = r.group; next = r.next; outputs = r.outputs; line = k }

-- rows on the lines from k on
unfoldable pub on_lines : ℕ → List Row → List Row
on_lines k [] = []
on_lines k (r ∷ rs) = on_line k r ∷ on_lines (k + 1) rs

-- a row, and a listing, whatever the lines
abbrev pub lineless : Row → Row
lineless r = on_line 0 r

unfoldable pub without_lines : Listing → Listing
without_lines t = record {
  head = t.head;
  rows = t.rows;
  table = map lineless t.table;
  dichotomies = t.dichotomies;
  asked = t.asked;
  said = t.said;
  given = t.given;
}

-- the listing of these rows alone
unfoldable pub rows_alone : Head → List Row → Listing
rows_alone h rs = record {
  head = h;
  rows = length rs;
  table = rs ++ replicate (most_rows - length rs) no_row;
  dichotomies = 0;
  asked = replicate most_dichotomies no_requirement;
  said = replicate most_states no_pattern;
  given = 0;
}

-- the rows of a listing on the lines where its text has them: line 1 is the head's
unfoldable pub renumbered : Listing → Listing
unfolding rows_alone on_lines
renumbered t = rows_alone t.head (on_lines 2 (rows_of t))
