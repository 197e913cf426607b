-- `tsurmokan::numbers::answer_part` meets its contract.
use Rattle.host_replies.proofs.Replies.{small}
use Rattle.tsurmokan.proofs.Said.{small-short, told_part, said-within, number-given}
use Rattle.tsurmokan.proofs.numbers.answer_part.Goals as goal

pub number_of-requires : goal.number_of-requires
number_of-requires c = let a = c.args in
    said-within (told_part _ (small-short _ (small a.wanted a.listing.now)) a.from a.out.now) c.say_part-said.ensures

pub returns : goal.returns
returns c = let a = c.args in
    number-given (told_part _ (small-short _ (small a.wanted a.listing.now)) a.from a.out.now) c.say_part-said.ensures c.number_of.type_inv c.number_of.ensures
