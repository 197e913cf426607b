-- `code_least::table::column_of` meets its contract: so many digits are turned.
use mathlib.Core.Path.{refl}
use native.Mathlib.Omega.{arith}
use Rattle.rules.specs.Least.{turned}
use Rattle.sets.proofs.Members.{has-lt}
use Rattle.code_least.proofs.Columns.{turned_more, turned-fits}
use Rattle.code_least.proofs.table.column_of.Goals as goal

pub loop-k-init : goal.loop-k-init
unfolding turned
loop-k-init c =
    refl

pub overflow_mul-b : goal.overflow_mul-b
overflow_mul-b c =
    omega (arith, turned-fits c.loop-k.k c.args.v (omega (arith, c.loop-k-test.true, c.requires)) c.loop-k.invariant)

pub overflow_add-b : goal.overflow_add-b
overflow_add-b c =
    omega (arith, turned-fits c.loop-k.k c.args.v (omega (arith, c.loop-k-test.true, c.requires)) c.loop-k.invariant, has-lt c.args.v c.loop-k.k)

pub loop-k-preserved : goal.loop-k-preserved
loop-k-preserved c =
    turned_more c.loop-k.k c.args.v c.loop-k.invariant

pub overflow_mul-result : goal.overflow_mul-result
overflow_mul-result c =
    omega (arith, turned-fits c.loop-k.k c.args.v (omega (arith, c.requires)) c.loop-k.invariant)
