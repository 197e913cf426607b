-- `read_lines::row::row_line` meets its contract.
use mathlib.Core.Path.{sym, ap, ◌∙◌}
use native.Mathlib.Omega.{arith}
use Rattle.read_lines.specs.Rows.{row_rest}
use Rattle.read_pieces.proofs.Laws.{cut_of}
use Rattle.read_lines.proofs.row.Laws.{line-none, line-rest}
use Rattle.read_lines.proofs.row.row_line.Goals as goal

pub returns-then-l-mark : goal.returns-then-l-mark
returns-then-l-mark c = sym (line-none _ _ _ _ _ (cut_of _ _ 0 (omega arith) c.cut-mark.ensures) c.if-l-mark.true)

pub returns : goal.returns
returns c =
    let a = c.args in
    c.row_rest.ensures
    ∙ ap (row_rest a.h a.count a.line) c.behind.ensures
    ∙ sym (line-rest _ _ _ _ _ (cut_of _ _ 0 (omega arith) c.cut-mark.ensures) c.if-l-mark.false)
