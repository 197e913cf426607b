-- `read_cover` is safe: what is held lies within the buffer.
use Rattle.std.proofs.Common.{◌≤◌, length}
use Rattle.check_cover.proofs.read_cover.Given as goal

abbrev pub invariant-loop : goal.invariant-loop
invariant-loop g l = l.held ≤ length l.bytes
