-- `run_encoded::all_mask` meets its contract.
use lib.Bits.{bit_and}
use lib.Dec.{eqb}
use borrow.Author.Rules.{rules}
use Rattle.run_encoded.specs.Terms.{all_at}
use Rattle.run_encoded.proofs.all_mask.Goals as goal

pub returns : goal.returns
unfolding all_at
returns c = c.mask_where.ensures (λ b. eqb (bit_and b c.args.m) c.args.m) (λ b r h q. search rules)
