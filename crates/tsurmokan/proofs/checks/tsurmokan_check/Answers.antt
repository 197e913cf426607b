-- `tsurmokan::checks::tsurmokan_check` meets its contract.
use Rattle.host_check.proofs.Room.{check-room}
use Rattle.tsurmokan.proofs.Said.{check-short, told, said-within, number-given}
use Rattle.tsurmokan.proofs.checks.tsurmokan_check.Goals as goal

pub number_of-requires : goal.number_of-requires
number_of-requires c = let a = c.args in
    said-within (told _ (check-short _ (check-room a.listing.now a.codes.now a.cover.now)) a.out.now) c.say-said.ensures

pub returns : goal.returns
returns c = let a = c.args in
    number-given (told _ (check-short _ (check-room a.listing.now a.codes.now a.cover.now)) a.out.now) c.say-said.ensures c.number_of.type_inv c.number_of.ensures
