-- `fill`: what it has filled begins with the bytes that were held, and the others are those that it read.
use Rattle.std.proofs.Common.{◌≡◌, ◌≤◌, ◌-◌, length, take, drop}
use Rattle.std.specs.Io.{StartsWith}
use Rattle.std.specs.Io.KnownBytes.{Consumes}
use Rattle.host_programs.proofs.fill.Given as goal

abbrev pub invariant-loop-filled : goal.invariant-loop-filled
invariant-loop-filled g l = record {
  same_length : length l.bytes ≡ length l.fn.bytes;
  within : l.filled ≤ length l.bytes;
  starts : StartsWith (take l.filled l.bytes) (take l.held l.fn.bytes);
  read : Consumes (g.R.Read.remaining l.fn.input) (g.R.Read.remaining l.input) (drop (length (take l.held l.fn.bytes)) (take l.filled l.bytes));
}

abbrev pub decreases-loop-filled : goal.decreases-loop-filled
decreases-loop-filled g l = length l.bytes - l.filled
