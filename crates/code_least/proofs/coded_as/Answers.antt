-- `code_least::coded_as` meets its contract: the bits stand in the first places, and behind them there are none.
use Rattle.code_least.proofs.Answers.{coded-is}
use Rattle.code_least.proofs.coded_as.Goals as goal

pub returns : goal.returns
returns c =
    coded-is c.args.n c.args.asked c.args.code.now c.fill_bits.new.bits c.fill_bits.ensures
