-- `write_report::add_judged` meets its contract: the line fits the part where that is open for it, and the buffer that it is written to.
use mathlib.Core.Path.{sym, ◌∙◌}
use Rattle.write_parts.proofs.Lines.{line-added, line-put}
use Rattle.write_report.proofs.add_judged.Goals as goal

pub returns-then-is_open : goal.returns-then-is_open
returns-then-is_open c =
    line-put _ _ _ c.args.part (sym c.is_open.ensures ∙ c.if-is_open.true) c.requires c.put_judged-end.ensures

pub returns : goal.returns
returns c =
    line-added c.put_judged-end-2.ensures c.requires _ c.args.part c.args.out.now c.add_line.ensures
