-- `read_lines::row::row_read` meets its contract: fields that are in order make the row.
use Rattle.std.specs.Prelude.{Some}
use Rattle.std.proofs.lemmas.Grind.{common_steps}
use mathlib.Core.Path.{◌≡◌, sym, ap, ◌∙◌}
use native.Mathlib.Omega.{arith}
use Rattle.rules.specs.Limits.{most_inputs, most_states}
use Rattle.rules.specs.Lines.{row_fits, row_checked}
use Rattle.read_fields.specs.Fields.{ones_in, pattern_in}
use Rattle.read_fields.proofs.Sets.{ones-read, pattern-read}
use Rattle.read_lines.specs.Rows.{row_read}
use Rattle.read_lines.proofs.row.row_read.Goals as goal

pub returns : goal.returns
unfolding row_read row_fits
returns c =
    let a = c.args in
    let p : pattern_in most_inputs a.h.inputs a.input.now ≡ Some c.in_ok-asked.asked = grind (arith, common_steps) in
    let q : ones_in most_states a.h.states a.group.now ≡ Some c.in_ok-states.states = grind (arith, common_steps) in
    let r : ones_in most_states a.h.states a.next.now ≡ Some c.in_ok-named.named = grind (arith, common_steps) in
    let input = pattern-read most_inputs _ _ (omega arith) p in
    let group = ones-read most_states _ _ (omega arith) q in
    let next = ones-read most_states _ _ (omega arith) r in
    c.row_checked.ensures
    ∙ ap (row_checked a.count) (λ j. record { input = input.1 j; group = group.1 j; next = next.1 j; outputs = a.outputs; line = a.line })
    ∙ sym (rw (input.0, group.0, next.0))
