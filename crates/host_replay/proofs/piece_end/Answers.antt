-- `host_replay::piece_end` meets its contract: behind the LF that is found there is none.
use borrow.Author.Rules.{rules}
use Rattle.host_replay.proofs.Ends.{ends-here, ends-none}
use Rattle.host_replay.proofs.piece_end.Goals as goal

pub returns-in-Some : goal.returns-in-Some
returns-in-Some c = record { value = ends-here c.args.bytes.now c.in-Some.i (search rules) (search rules) (search rules); upper_bound = search rules }

pub returns-in-None : goal.returns-in-None
returns-in-None c = record { value = ends-none c.args.bytes.now (search rules); upper_bound = search rules }
