-- `run_encoded::some_mask` meets its contract.
use mathlib.Core.Bool.{not}
use lib.Bits.{bit_and}
use lib.Dec.{eqb}
use borrow.Author.Rules.{rules}
use Rattle.run_encoded.specs.Terms.{some_at}
use Rattle.run_encoded.proofs.some_mask.Goals as goal

pub returns : goal.returns
unfolding some_at
returns c = c.mask_where.ensures (λ b. not (eqb (bit_and b c.args.m) 0)) (λ b r h q. search rules)
