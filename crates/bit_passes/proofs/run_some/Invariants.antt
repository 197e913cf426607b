-- `bit_passes::run_some` meets its contract.
use Rattle.std.proofs.Common.{◌≡◌, ◌-◌, false}
use Rattle.bit_live.specs.Live.{live_in}
use Rattle.bit_passes.proofs.Running.{Running}
use Rattle.bit_passes.proofs.run_some.Given as goal

abbrev pub invariant-loop : goal.invariant-loop
invariant-loop l =
    Running l.n (live_in l.n l.bits l.fs) l.initial.run.bit l.initial.run.passes l.initial.run.looks l.k l.run.bit l.run.passes l.run.looks (l.k - l.counter) × (l.run.done ≡ false)
