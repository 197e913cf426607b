-- `read_lines::row::row_end` meets its contract: outputs that are in order stand in the row.
use Rattle.std.specs.Prelude.{Some}
use Rattle.std.proofs.lemmas.Grind.{common_steps}
use mathlib.Core.Path.{◌≡◌, sym, ap, ◌∙◌}
use native.Mathlib.Omega.{arith}
use Rattle.rules.specs.Limits.{most_outputs}
use Rattle.read_fields.specs.Fields.{pattern_in}
use Rattle.read_fields.proofs.Sets.{pattern-read}
use Rattle.read_lines.specs.Rows.{row_read}
use Rattle.read_lines.proofs.row.Laws.{end-fields}
use Rattle.read_lines.proofs.row.row_end.Goals as goal

pub returns : goal.returns
returns c =
    let a = c.args in
    let p : pattern_in most_outputs a.h.outputs c.behind.result.now ≡ Some c.in_ok-outputs.outputs = grind (arith, common_steps) in
    let outputs = pattern-read most_outputs _ _ (omega arith) p in
    c.row_read.ensures
    ∙ ap (row_read a.h a.count a.line _ _ _) outputs.1
    ∙ sym (end-fields _ _ _ _ _ _ (sym c.stands_at.ensures ∙ c.if-not-stands_at.false) c.first_of.ensures c.behind.ensures outputs.0)
