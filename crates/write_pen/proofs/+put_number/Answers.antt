-- `write_pen::put_number` meets its contract. It ends since a number of two digits or more is above the number without its last digit.
use mathlib.Core.Path.{sym}
use Rattle.write_pen.proofs.Laws.{wrote_then, wrote_as}
use Rattle.rules.proofs.Decimal.{decimal-low, decimal-more}
use Rattle.write_pen.proofs.+put_number.Goals as goal

pub returns-then-v-lt10 : goal.returns-then-v-lt10
returns-then-v-lt10 t c = wrote_as c.put_byte.ensures (sym (decimal-low _ c.if-v-lt10.true))

pub returns : goal.returns
returns t c =
    wrote_as (wrote_then c.put_number-to.ensures c.put_byte-2.ensures) (sym (decimal-more _ c.if-v-lt10.false))
