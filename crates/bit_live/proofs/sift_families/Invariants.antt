-- `bit_live::sift_families` meets its contract.
use Rattle.std.proofs.Common.{◌*◌}
use Rattle.bit_live.proofs.Sifting.{Judged}
use Rattle.bit_live.proofs.sift_families.Given as goal

abbrev pub invariant-loop-k : goal.invariant-loop-k
invariant-loop-k l =
    Judged l.b l.initial.fs (3 * l.k) l.j l.fs
