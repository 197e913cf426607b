-- `move_pairs::put_pairs` meets its contract.
use Rattle.move_pairs.specs.Pairs.{pairs_put}
use Rattle.move_pairs.proofs.put_pairs.Goals as goal

pub returns : goal.returns
unfolding pairs_put
returns c = cc
