-- `move_trial::calls::all_sound` meets its contract: what is left of the lists decides as the whole does.
use Rattle.std.proofs.Common.{◌≡◌}
use Rattle.std.specs.Slice.Iter.{iter_rest}
use Rattle.std.specs.Iterator.Adapters.{zip_first, zip_second}
use Rattle.rules.specs.Trial.{paired, all_sound}
use Rattle.move_trial.proofs.calls.all_sound.Given as goal

abbrev pub invariant-loop-f : goal.invariant-loop-f
invariant-loop-f l =
    all_sound l.n (paired (iter_rest (zip_first l.f-iterator)) (iter_rest (zip_second l.f-iterator))) ≡ all_sound l.n (paired l.firsts l.seconds)
