-- `code_least::table::fill_bits` meets its contract: the bits of the columns passed stand in the first places.
use mathlib.Core.Path.{ap, ◌∙◌}
use lib.ListN.{set}
use Rattle.rules.specs.Least.{column}
use Rattle.code_least.proofs.Filling.{filled_more}
use Rattle.code_least.proofs.table.fill_bits.Goals as goal

pub loop-k-preserved : goal.loop-k-preserved
loop-k-preserved c =
    ap (λ b. set b c.loop-k.k c.column_of.result) c.loop-k.invariant ∙ filled_more (column c.args.n) c.args.code.now c.args.bits.now c.requires.1 c.loop-k.k c.loop-k-test.true c.column_of.ensures
