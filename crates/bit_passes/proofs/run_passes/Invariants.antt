-- `bit_passes::run_passes` meets its contract.
use Rattle.bit_choice.specs.Pass.{passes_by, tallied}
use Rattle.bit_live.specs.Live.{live_in}
use Rattle.bit_passes.specs.Runs.{ran_on}
use Rattle.bit_passes.proofs.Running.{allowed}
use Rattle.std.proofs.Common.{◌≡◌, ◌+◌, ◌*◌, length, drop}
use Rattle.bit_passes.proofs.run_passes.Given as goal

abbrev pub invariant-loop-all : goal.invariant-loop-all
invariant-loop-all l =
    ran_on (allowed l.n l.bits (drop (3 * l.all-index) l.fs)) l.n (live_in l.n l.bits l.fs) l.w
    ≡ tallied 0 0 (passes_by (length (live_in l.n l.bits l.fs) + 1) l.n (live_in l.n l.bits l.fs) l.start)
