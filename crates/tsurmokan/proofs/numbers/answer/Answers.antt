-- `tsurmokan::numbers::answer` meets its contract.
use Rattle.host_replies.proofs.Replies.{small}
use Rattle.tsurmokan.proofs.Said.{small-short, told, said-within, number-given}
use Rattle.tsurmokan.proofs.numbers.answer.Goals as goal

pub number_of-requires : goal.number_of-requires
number_of-requires c = let a = c.args in
    said-within (told _ (small-short _ (small a.wanted a.listing.now)) a.out.now) c.say-said.ensures

pub returns : goal.returns
returns c = let a = c.args in
    number-given (told _ (small-short _ (small a.wanted a.listing.now)) a.out.now) c.say-said.ensures c.number_of.type_inv c.number_of.ensures
