-- What the reader of a flow table answers: of a listing that is read, its dichotomies; and what one line says of the table.
use Rattle.std.specs.Prelude.{◌&&◌, cond, List, ℕ, ◌+◌, leb, Result, Ok, Err}
use Rattle.rules.specs.Limits.{most_states, most_dichotomies}
use Rattle.rules.specs.Text.{lines_of}
use Rattle.rules.specs.FlowLines.{FlowStep, flow_goes, flow_ends, flow_stops}
use Rattle.rules.specs.Listing.{nothing, flow_read, flow_lines, Reading}
use Rattle.rules.specs.declared.Head.{Head}
use Rattle.rules.specs.declared.Refusal.{Refusal}
use Rattle.rules.specs.declared.Refusal.TheVariants.{Limit, Place}
use Rattle.rules.specs.Refusals.{refused}
use Rattle.read_flow.specs.declared.Flow.{Flow}
use Rattle.read_flow.specs.declared.asks.Gathered.{Gathered}
use Rattle.read_flow.specs.declared.says.Said.{Said}
use Rattle.rules.specs.declared.Refused.{Refused}

-- what stands in a flow table's reading beside its head
abbrev pub flow_of : Reading → Result Flow Refused
flow_of (Ok t) = Ok (record { dichotomies = t.dichotomies; asked = t.asked })
flow_of (Err why) = Err why

-- what was gathered, of which more than 64 are too many
unfoldable pub flow_given : Gathered → Result Flow Refused
flow_given g = cond (leb g.count most_dichotomies) (Ok (record { dichotomies = g.count; asked = g.asked })) (refused Limit 0)

-- after `EN`, which stood on line k, with these columns
unfoldable pub flow_end : ℕ → Head → List (List ℕ) → List (List ℕ) → Reading
unfolding nothing flow_read
flow_end k h columns rest = cond (nothing rest) (flow_read h columns) (refused Place (k + 1))

-- the lines behind the head h; a head that no head line can say is 2
unfoldable pub flow_table : Head → List ℕ → Reading
unfolding flow_lines
flow_table h s = cond (leb 1 h.states && leb h.states most_states) (flow_lines 2 h (lines_of s) (lines_of s)) (refused Limit 0)

-- ---- one line

abbrev pub said_of : FlowStep → Result Said Refusal
said_of flow_goes = Ok Said.Line
said_of flow_ends = Ok Said.End
said_of (flow_stops r) = Err r
