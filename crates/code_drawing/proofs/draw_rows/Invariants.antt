-- `code_drawing::draw_rows` meets its contract: the rows still to come, behind the words drawn, make what all of them make.
use Rattle.std.proofs.Common.{◌≡◌, ◌≤◌, ◌+◌, ◌*◌, take, drop}
use Rattle.code_drawing.specs.Drawing.{with_groups, Drew}
use Rattle.code_drawing.proofs.draw_rows.Given as goal

abbrev pub invariant-loop-row : goal.invariant-loop-row
invariant-loop-row l =
    (l.at ≤ l.k) × (l.k ≤ l.at + 3 * l.row-index) × Drew l.initial.fs (take l.k l.fs) l.k l.fs × (with_groups l.n (take l.k l.fs) (drop l.row-index l.rows) ≡ with_groups l.n (take l.at l.initial.fs) l.rows)
