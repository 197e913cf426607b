-- `bit_live::count_families` meets its contract.
use Rattle.std.proofs.Common.{◌*◌, drop}
use Rattle.bit_live.proofs.Counts.{Counted}
use Rattle.bit_live.proofs.count_families.Given as goal

abbrev pub invariant-loop-all : goal.invariant-loop-all
invariant-loop-all l =
    Counted l.fs l.count (drop (3 * l.all-index) l.fs)
