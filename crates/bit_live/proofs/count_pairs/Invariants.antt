-- `bit_live::count_pairs` meets its contract.
use Rattle.std.proofs.Common.{◌≡◌, ◌+◌, ◌*◌, ◌≤◌, length}
use Rattle.move_pairs.specs.Pairs.{live_pairs}
use Rattle.bit_live.proofs.Counts.{pairsFrom}
use Rattle.bit_live.proofs.count_pairs.Given as goal

abbrev pub invariant-loop-i : goal.invariant-loop-i
invariant-loop-i l =
    (l.count + pairsFrom l.n l.bits l.i ≡ length (live_pairs l.n l.bits)) × (l.count ≤ 64 * l.i)
