-- `tsurmokan::numbers::answer_names` meets its contract.
use Rattle.host_names.proofs.Named.{names-small}
use Rattle.tsurmokan.proofs.Said.{small-short, told, said-within, number-given}
use Rattle.tsurmokan.proofs.numbers.answer_names.Goals as goal

pub number_of-requires : goal.number_of-requires
number_of-requires c = let a = c.args in
    said-within (told _ (small-short _ (names-small a.text.now)) a.out.now) c.say_names-said.ensures

pub returns : goal.returns
returns c = let a = c.args in
    number-given (told _ (small-short _ (names-small a.text.now)) a.out.now) c.say_names-said.ensures c.number_of.type_inv c.number_of.ensures
