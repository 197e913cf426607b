-- `bit_passes::run_pass` meets its contract.
use Rattle.std.proofs.Common.{◌≡◌, ◌-◌}
use Rattle.bit_choice.specs.Pass.{going, go_moves}
use Rattle.bit_live.specs.Live.{live_in}
use Rattle.bit_passes.proofs.run_pass.Given as goal

abbrev pub invariant-loop : goal.invariant-loop
invariant-loop l =
    go_moves (l.n - l.counter) l.n (live_in l.n l.bits l.fs) (going l.w l.t) ≡ go_moves l.n l.n (live_in l.n l.bits l.fs) (going l.initial.w l.initial.t)
