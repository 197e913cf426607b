-- `run_replay::step_both` meets its contract.
use lib.ListN.{length}
use Rattle.run_replay.proofs.Lines.{both-made}
use Rattle.run_replay.proofs.step_both.Goals as goal

pub returns : goal.returns
returns c =
    let a = c.args in
    both-made a.m.listing.now a.m.terms.now (length a.m.bits.now) a.x a.s a.code c.told_at-told.ensures c.lowest-state.ensures c.outputs_told-outputs.ensures c.code_after-after.ensures
