-- `tsurmokan::runs::tsurmokan_replay_part` meets its contract.
use Rattle.host_replay.proofs.Replies.{replay-small}
use Rattle.tsurmokan.proofs.Said.{run_short, told_part, said-within, number-given}
use Rattle.tsurmokan.proofs.runs.tsurmokan_replay_part.Goals as goal

pub number_of-requires : goal.number_of-requires
number_of-requires c = let a = c.args in
    said-within (told_part _ (run_short _ (replay-small a.listing.now a.run.now)) a.from a.out.now) c.say_part-said.ensures

pub returns : goal.returns
returns c = let a = c.args in
    number-given (told_part _ (run_short _ (replay-small a.listing.now a.run.now)) a.from a.out.now) c.say_part-said.ensures c.number_of.type_inv c.number_of.ensures
