-- `print_run` is safe: what is held lies within the buffer.
use Rattle.std.proofs.Common.{◌≤◌, length}
use Rattle.replay.proofs.print_run.Given as goal

abbrev pub invariant-loop : goal.invariant-loop
invariant-loop g l = l.going.held ≤ length l.bytes
