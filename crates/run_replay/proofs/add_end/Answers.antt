-- `run_replay::add_end` meets its contract.
use Rattle.run_replay.proofs.Lines.{ends_on}
use Rattle.run_replay.proofs.add_end.Goals as goal

pub returns : goal.returns
returns c =
    let a = c.args in
    ends_on a.refusal a.line (a.part, a.out.now) _ c.add_refusal-to.ensures
