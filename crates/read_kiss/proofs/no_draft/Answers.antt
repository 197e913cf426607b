-- `read_kiss::no_draft` meets its contract.
use Rattle.read_kiss.specs.Says.{no_draft_yet}
use Rattle.read_kiss.proofs.no_draft.Goals as goal

pub returns : goal.returns
unfolding no_draft_yet
returns c = rw c.no_names.ensures
