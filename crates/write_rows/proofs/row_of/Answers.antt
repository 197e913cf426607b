-- `write_rows::row_of` meets its contract.
use mathlib.Core.Path.{◌≡◌, ◌∙◌}
use native.Mathlib.Omega.{arith}
use borrow.Author.Rules.{rules}
use Rattle.write_rows.specs.Rows.{row_of}
use Rattle.write_rows.proofs.Counted.{state-few, row-listed}
use Rattle.write_rows.proofs.row_of.Goals.{After-row_at}
use Rattle.write_rows.proofs.row_of.Goals as goal

pub offset_bounds-t-state : goal.offset_bounds-t-state
offset_bounds-t-state c = record { fits = omega (arith, c.state_at-state.ensures, state-few c.least-n.result c.args.k) }

pub bounds-t-state : goal.bounds-t-state
bounds-t-state c = omega (arith, c.state_at-state.ensures, state-few c.least-n.result c.args.k)

made : (c : After-row_at) → c.row_at.result ≡ row_of c.args.t.now c.args.k
unfolding row_of
made c = c.row_at.ensures ∙ rw (c.state_at-state.ensures, c.least-place.ensures, c.least-n.ensures)

pub returns-clause-made : goal.returns-clause-made
returns-clause-made c = made (goal.at.returns-clause-made c).After-row_at

pub returns-clause-listed : goal.returns-clause-listed
returns-clause-listed c h = made (goal.at.returns-clause-listed c).After-row_at ∙ row-listed c.args.t.now (search rules) (search rules) c.args.k h
