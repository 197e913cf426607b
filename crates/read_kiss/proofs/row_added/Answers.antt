-- `read_kiss::row_added` meets its contract.
use Rattle.read_kiss.specs.Says.{moved_row}
use Rattle.read_names.specs.declared.Piece.{Piece}
use Rattle.rules.specs.Kiss.{with_line}
use Rattle.read_kiss_rows.specs.Drafts.{more_of}
use mathlib.Core.Path.{ap₂, ◌∙◌}
use Rattle.read_kiss.proofs.row_added.Goals as goal

pub returns : goal.returns
unfolding moved_row
returns c =
    let a = c.args in
    c.with_row.ensures
    ∙ ap₂ (λ (p q : Piece). more_of a.s.now a.k (record { input = a.row.input; states = record { present = p; next = q }; outputs = a.row.outputs }) (with_line a.d.heads) a.d)
    c.moved.ensures c.moved-2.ensures
