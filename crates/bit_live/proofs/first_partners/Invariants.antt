-- `bit_live::first_partners` meets its contract.
use Rattle.move_pairs.specs.Pairs.{partners_of}
use Rattle.std.proofs.Common.{◌≡◌, ℕ, ◌<◌}
use Rattle.bit_live.proofs.first_partners.Given as goal

abbrev pub invariant-loop-i : goal.invariant-loop-i
invariant-loop-i l =
    (k : ℕ) → k < l.i → partners_of l.n l.bits k ≡ 0
