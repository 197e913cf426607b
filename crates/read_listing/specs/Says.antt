-- What a line does to a listing, said without the listing: the reader keeps its one listing where it lies, and adds to it there.
use Rattle.rules.specs.declared.StateOutputs.{StateOutputs}
use Rattle.rules.specs.declared.Requirement.{Requirement}
use Rattle.rules.specs.declared.Row.{Row}
use Rattle.std.specs.Prelude.{Bool, true, false, cond, List, ℕ, ◌+◌, leb, length, Result, Ok, Err}
use Rattle.rules.specs.Limits.{most_bytes}
use Rattle.rules.specs.Text.{split, lines_of, mark_of, mark_is}
use Rattle.rules.specs.Lines.{head_line, row_line, dichotomy_line, outputs_line, end_line}
use Rattle.rules.specs.Listing.{blank, with_head, with_row, with_dichotomy, with_outputs, placed, Step, goes, ends, stops, nothing, complete, Reading}
use Rattle.rules.specs.Least.{begins_large}
use Rattle.rules.specs.declared.Head.{Head}
use Rattle.rules.specs.declared.Listing.{Listing}
use Rattle.rules.specs.declared.Mark.{Mark}
use Rattle.rules.specs.declared.Mark.TheVariants.{Mc, Mo, Pt, Di, Ou, Ft, En, Unknown}
use Rattle.rules.specs.declared.Refusal.{Refusal}
use Rattle.rules.specs.declared.Refusal.TheVariants.{BadLine, Limit, Place, NoOutputs}
use Rattle.rules.specs.Refusals.{Verdict, refused}
use Rattle.read_flow.specs.declared.Flow.{Flow}
use Rattle.read_listing.specs.declared.says.Said.{Said}
use Rattle.rules.specs.declared.Refused.{Refused}

-- what was said, done to a listing
abbrev pub step_of : Result Said Refusal → Listing → Step
step_of (Ok (Said.Head h)) t = goes (with_head h t)
step_of (Ok (Said.Row r)) t = goes (with_row r t)
step_of (Ok (Said.Dichotomy d)) t = goes (with_dichotomy d t)
step_of (Ok (Said.Outputs o)) t = goes (with_outputs o.state.0 o.outputs t)
step_of (Ok Said.End) t = ends
step_of (Err r) t = stops r

abbrev pub head_says : Result Head Refusal → Result Said Refusal
head_says (Ok h) = Ok (Said.Head h)
head_says (Err r) = Err r

abbrev pub row_says : Result Row Refusal → Result Said Refusal
row_says (Ok r) = Ok (Said.Row r)
row_says (Err r) = Err r

abbrev pub dichotomy_says : Result Requirement Refusal → Result Said Refusal
dichotomy_says (Ok d) = Ok (Said.Dichotomy d)
dichotomy_says (Err r) = Err r

abbrev pub outputs_says : Result StateOutputs Refusal → Result Said Refusal
outputs_says (Ok o) = Ok (Said.Outputs o)
outputs_says (Err r) = Err r

abbrev pub end_says : Result Unit Refusal → Result Said Refusal
end_says (Ok tt) = Ok Said.End
end_says (Err r) = Err r

-- line k in its place, under the head h and behind so many rows and dichotomies
unfoldable pub placed_says : Mark → ℕ → Head → ℕ → ℕ → List ℕ → Result Said Refusal
placed_says Mc k h rows dichotomies l = head_says (head_line false l)
placed_says Mo k h rows dichotomies l = head_says (head_line true l)
placed_says Pt k h rows dichotomies l = row_says (row_line h rows k l)
placed_says Di k h rows dichotomies l = dichotomy_says (dichotomy_line h dichotomies l)
placed_says Ou k h rows dichotomies l = outputs_says (outputs_line h l)
placed_says Ft k h rows dichotomies l = Err BadLine
placed_says En k h rows dichotomies l = end_says (end_line l)
placed_says Unknown k h rows dichotomies l = Err BadLine

-- and line k, behind the `OU` lines of the states given too
unfoldable pub line_says : ℕ → Head → ℕ → ℕ → ℕ → List ℕ → Result Said Refusal
line_says k h rows dichotomies given l = cond (placed (mark_is (mark_of l)) k h given l) (placed_says (mark_is (mark_of l)) k h rows dichotomies l) (Err Place)

-- after `EN`, which stood on line k: a state of a Moore machine without outputs is 17
unfoldable pub outputs_verdict : ℕ → Head → ℕ → Verdict
unfolding complete
outputs_verdict k h given = cond (complete h given) (Ok tt) (refused NoOutputs k)

-- and bytes behind it are 3, before that
unfoldable pub end_verdict : ℕ → Head → ℕ → List (List ℕ) → Verdict
unfolding nothing outputs_verdict
end_verdict k h given rest = cond (nothing rest) (outputs_verdict k h given) (refused Place (k + 1))

-- how many states a line names; none where it gives no head
unfoldable pub states_said : Result Said Refusal → ℕ
states_said (Ok (Said.Head h)) = h.states
states_said (Ok (Said.Row r)) = 0
states_said (Ok (Said.Dichotomy d)) = 0
states_said (Ok (Said.Outputs o)) = 0
states_said (Ok Said.End) = 0
states_said (Err r) = 0

-- ---- a flow table

-- the listing of a flow table: its head, and the dichotomies that were read
unfoldable pub flow_listing : Head → Flow → Listing
unfolding blank
flow_listing h f = record {
  head = h;
  rows = blank.rows;
  table = blank.table;
  dichotomies = f.dichotomies;
  asked = f.asked;
  said = blank.said;
  given = blank.given;
}

-- and what is read with it
unfoldable pub reading_of : Head → Result Flow Refused → Reading
unfolding flow_listing
reading_of h (Ok f) = Ok (flow_listing h f)
reading_of h (Err why) = Err why

-- ---- before the lines

-- too many bytes are 2 at line 0; of a small machine, too many states are 2 at line 1
unfoldable pub first_verdict : Bool → List ℕ → Verdict
unfolding begins_large split
first_verdict small s =
    cond (leb (length s) most_bytes) (cond small (cond (begins_large (lines_of s)) (refused Limit 1) (Ok tt)) (Ok tt)) (refused Limit 0)
