-- What checking finds, step by step as it is done, and the reply that it is.
use Rattle.std.specs.Prelude.{List, ℕ, ◌+◌, min, take, replicate, Result, Ok, Err, Some, None}
use Rattle.rules.specs.Limits.{most_states, most_inputs, most_outputs, most_bits}
use Rattle.rules.specs.Text.{split, lines_of}
use Rattle.rules.specs.Code.{unmet_from}
use Rattle.rules.specs.Listing.{Reading, all_rows, reading}
use Rattle.rules.specs.Refusals.{Verdict}
use Rattle.rules.specs.Report.{unmet_line}
use Rattle.rules.specs.Answers.{Reply, says, refuses}
use Rattle.rules.specs.CheckTexts.{no_heads, codes_reading, cover_reading}
use Rattle.rules.specs.Check.{fault_from, fault_line}
use Rattle.rules.specs.declared.Head.{Head}
use Rattle.rules.specs.declared.Listing.{Listing}
use Rattle.rules.specs.declared.CodeTable.{CodeTable}
use Rattle.rules.specs.declared.Refused.{Refused}
use Rattle.families.specs.Families.{requirements_in}
use Rattle.code_drawing.specs.Drawing.{first_families}
use Rattle.judge_search.specs.Rows.{fires_words, says_words}
use Rattle.judge_search.specs.Search.{fails_at}
use Rattle.judge_codes.specs.Lines.{all_bits}
use Rattle.judge_rows.specs.Rows.{listing_laid}
use Rattle.judge_reading.specs.Tables.{tables_from}
use Rattle.judge_reading.specs.declared.Reader.{Reader}
use Rattle.judge_unmet.specs.First.{first_of}
use Rattle.judge_check.specs.declared.Begun.{Begun}
use Rattle.judge_check.specs.declared.Checked.{Checked}

-- what the listing and the codes come to: both, or the refusal of one of them
abbrev pub Beginning : Type 0
Beginning = Result Begun Refused

-- what all three come to
abbrev pub Finding : Type 0
Finding = Result Checked Refused

-- what the cover is read for
abbrev pub reader_of : Listing → CodeTable → Reader
reader_of t c = record { inputs = t.head.inputs; taken = t.head.inputs + c.width; given = c.width + t.head.outputs; states = t.head.states; codes = c }

-- of any listing and codes; of inputs, bits and outputs no more than there can be
unfoldable pub reader_for : Head → CodeTable → Reader
reader_for h c =
    let w : ℕ = min c.width most_bits in
    record { inputs = h.inputs; taken = min h.inputs most_inputs + w; given = w + min h.outputs most_outputs; states = h.states; codes = c }

-- the listing and its codes
unfoldable pub codes_begun : Listing → List (List ℕ) → Beginning
unfolding codes_reading
codes_begun t codes =
    elim (codes_reading (min t.head.states most_states) codes) [ Ok c ↦ Ok (record { listing = t; codes = c }) | Err why ↦ Err why ]

-- by what was read of the listing
unfoldable pub begun_by : Reading → List (List ℕ) → Beginning
unfolding codes_begun
begun_by (Ok t) codes = codes_begun t codes
begun_by (Err why) codes = Err why

-- of any bytes
unfoldable pub begun : List ℕ → List ℕ → Beginning
unfolding reading split begun_by
begun s codes = begun_by (reading s) (lines_of codes)

-- by the two tables
unfoldable pub settled : Listing → CodeTable → List ℕ × List ℕ → Checked
unfolding first_of unmet_from all_bits requirements_in first_families fault_from fails_at
settled t c u =
    let i : ℕ = min t.head.inputs most_inputs in
    elim (first_of (unmet_from 0 64 (take c.width (all_bits (take (min t.head.states most_states) c.table))) (requirements_in (first_families t)))) [
      | Some r ↦ Checked.Unmet r
      | None ↦ Checked.Judged (fault_from (fails_at u.0 u.1 i) i 0 t.head.states)
    ]

-- the tables of a listing
unfoldable pub listing_tables : Listing → CodeTable → List ℕ × List ℕ
unfolding listing_laid all_rows
listing_tables t c = listing_laid c.table 0 (all_rows t) (replicate fires_words 0, replicate says_words 0)

-- by the verdict on the cover, and the tables
unfoldable pub finished : Listing → CodeTable → Verdict → List ℕ × List ℕ → Finding
unfolding settled
finished t c (Ok _) u = Ok (settled t c u)
finished t c (Err why) u = Err why

unfoldable pub cover_checked : Listing → CodeTable → List (List ℕ) → Finding
unfolding reader_for finished cover_reading tables_from listing_tables
cover_checked t c ls = let q : Reader = reader_for t.head c in finished t c (cover_reading q.taken q.given ls) (tables_from q no_heads ls (listing_tables t c))

-- by what was begun
unfoldable pub found_of : Beginning → List (List ℕ) → Finding
unfolding cover_checked
found_of (Ok b) ls = cover_checked b.listing b.codes ls
found_of (Err why) ls = Err why

-- the line that says what was found
unfoldable pub line_of : Checked → List ℕ
unfolding unmet_line fault_line
line_of (Checked.Unmet r) = unmet_line r
line_of (Checked.Judged f) = fault_line f

-- the reply: a line, or the refusal
unfoldable pub reply_of : Finding → Reply
unfolding line_of
reply_of (Ok x) = says (line_of x)
reply_of (Err why) = refuses why.refusal why.line
