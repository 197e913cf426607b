-- The replay of a run on a listing that is read and coded: its reply, and what a piece of the run prints.
use Rattle.std.specs.Prelude.{cond, List, ◌++◌, ℕ, eqb, length, drop, Ok, Err, Result}
use Rattle.rules.specs.Report.{joined_lines}
use Rattle.rules.specs.Answers.{Reply, says, refuses}
use Rattle.rules.specs.Parts.{whole_lines, part}
use Rattle.rules.specs.declared.Refused.{Refused}
use Rattle.host_replies.specs.declared.Ready.{Ready}
use Rattle.run_replay.specs.Moves.{machines_of}
use Rattle.run_replay.specs.Places.{Course, course_of}
use Rattle.run_replay.specs.declared.Machines.{Machines}
use Rattle.run_replay.specs.declared.Place.{Place}
use Rattle.host_replay.specs.declared.Printed.{Printed}

-- both machines
unfoldable pub machines_in : Ready → Machines
unfolding machines_of
machines_in d = machines_of d.listing d.encoding.width d.encoding.bits

-- the reply to a run: the listing's own refusal, or the lines
unfoldable pub replay_in : Result Ready Refused → List ℕ → Reply
unfolding machines_in course_of joined_lines
replay_in (Ok d) run = says (joined_lines (course_of (machines_in d) Place.First run).0)
replay_in (Err why) run = refuses why.refusal why.line

-- how many bytes and the place, and the buffer that they stand at the start of, the rest of it as it came
unfoldable pub printing_piece : Course → List ℕ → Printed × List ℕ
unfolding part joined_lines
printing_piece g out = let given : List ℕ = part (length out) 0 (joined_lines g.0) in (record { given = length given; place = g.1 }, given ++ drop (length given) out)

-- where the whole lines among some bytes end; behind all of them where there is none
unfoldable pub piece_end : List ℕ → ℕ
unfolding whole_lines
piece_end l = let whole : ℕ = length (whole_lines (length l) l) in cond (eqb whole 0) (length l) whole
