-- `run_print::put_code` meets its contract: a code of no bits is one dash.
use Rattle.write_pen.proofs.Laws.{wrote_as}
use Rattle.run_print.proofs.Fields.{code-none, code-some}
use Rattle.run_print.proofs.put_code.Goals as goal

pub returns-then-width-eq0 : goal.returns-then-width-eq0
returns-then-width-eq0 c =
    let a = c.args in
    wrote_as c.put_byte.ensures (code-none a.width a.code c.if-width-eq0.true)

pub returns-else-width-eq0 : goal.returns-else-width-eq0
returns-else-width-eq0 c =
    let a = c.args in
    wrote_as c.put_digits.ensures (code-some a.width a.code c.if-width-eq0.false)
