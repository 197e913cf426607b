-- `host_replay::machines` meets its contract.
use Rattle.host_replay.specs.Replaying.{machines_in}
use Rattle.host_replay.proofs.machines.Goals as goal

pub returns : goal.returns
unfolding machines_in
returns c =
    c.machines_of.ensures
