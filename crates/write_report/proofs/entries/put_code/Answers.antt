-- `write_report::entries::put_code` meets its contract: a code of no bits is one dash.
use mathlib.Core.Path.{sym, ◌∙◌}
use borrow.Author.Tests.{eqb-true, eqb-false}
use Rattle.write_pen.proofs.Laws.{wrote_as}
use Rattle.write_report.proofs.Fields.{code-none, code-some, code-alone}
use Rattle.write_report.proofs.entries.put_code.Goals as goal

pub returns-then-is_empty : goal.returns-then-is_empty
returns-then-is_empty c =
    wrote_as c.put_byte.ensures (code-none c.args.bits.now c.args.s.0 (eqb-true _ 0 (sym c.is_empty.ensures ∙ c.if-is_empty.true)))

pub returns : goal.returns
returns c =
    let s = c.args in
    let alone = code-alone s.bits.now s.s.0 _ (λ k. (c.type_inv.bits k).fits) c.flipped.ensures in
    wrote_as c.put_values.ensures (code-some s.bits.now s.s.0 _ alone (eqb-false _ 0 (sym c.is_empty.ensures ∙ c.if-is_empty.false)))
