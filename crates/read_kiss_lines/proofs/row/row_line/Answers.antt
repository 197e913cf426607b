-- `row::row_line` meets its contract: fields that are in order make the row.
use Rattle.std.specs.Prelude.{Some}
use Rattle.std.proofs.lemmas.Grind.{common_steps}
use mathlib.Core.Path.{◌≡◌, sym, ap₂, ◌∙◌}
use native.Mathlib.Omega.{arith}
use borrow.Author.Tests.{eq-eqb}
use Rattle.rules.specs.Limits.{most_inputs, most_outputs}
use Rattle.rules.specs.Text.{field_at}
use Rattle.rules.specs.declared.Pattern.{Pattern}
use Rattle.read_fields.specs.Fields.{pattern_in}
use Rattle.read_fields.proofs.Sets.{pattern-read}
use Rattle.read_kiss_lines.specs.Says.{row_read}
use Rattle.read_kiss_lines.proofs.JudgedRows.{row-parts}
use Rattle.read_kiss_lines.proofs.row.row_line.Goals as goal

pub returns : goal.returns
returns c =
    let a = c.args in
    let l = a.l.now in
    let p : pattern_in most_inputs a.i (field_at l 0) ≡ Some c.in_ok-input.input = grind (arith, common_steps) in
    let q : pattern_in most_outputs a.o (field_at l 3) ≡ Some c.in_ok-outputs.outputs = grind (arith, common_steps) in
    let input = pattern-read most_inputs _ _ (omega arith) p in
    let outputs = pattern-read most_outputs _ _ (omega arith) q in
    let four = eq-eqb _ 4 (sym c.field_count.ensures ∙ c.if-field_count-ne4.false) in
    c.row_read.ensures ∙ ap₂ (λ (i o : Pattern). row_read l i o) input.1 outputs.1 ∙ sym (row-parts a.i a.o l ∙ rw (four, input.0, outputs.0))
