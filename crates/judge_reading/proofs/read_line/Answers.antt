-- `judge_reading::read_line` meets its contract, by what the line says.
use Rattle.std.specs.Prelude.{Err}
use mathlib.Core.Path.{ap, ◌∙◌}
use Rattle.std.proofs.lemmas.Result.{err_from_is_err_and}
use Rattle.judge_reading.proofs.Pieces.{stays-place, stays-tables, refused-place, refused-tables, read-place, read-tables}
use Rattle.judge_reading.proofs.read_line.Goals as goal

pub returns-in_err-at : goal.returns-in_err-at
returns-in_err-at c =
    let p = err_from_is_err_and c.from_residual.result c.from_residual.ensures.1 in
    record { place = rw (p.1, p.2) (stays-place _ c.in_err-at.was); tables = stays-tables _ _ _ c.in_err-at.was }

pub returns-in-Err : goal.returns-in-Err
returns-in-Err c =
    let a = c.args in
    let here = c.in_ok-at.was in
    record {
      place = ap Err c.at.ensures ∙ refused-place a.l.now here c.line_said-got.ensures c.in-Err.is;
      tables = refused-tables a.l.now here c.line_said-got.ensures a.q (a.fires.now, a.says.now) c.in-Err.is;
    }

pub returns-in-Ok : goal.returns-in-Ok
returns-in-Ok c =
    let a = c.args in
    let here = c.in_ok-at.was in
    record {
      place = read-place a.l.now here c.line_said-got.ensures c.in-Ok.is c.least-line.ensures;
      tables = read-tables a.l.now here c.line_said-got.ensures a.q (a.fires.now, a.says.now) c.in-Ok.is c.put_row.ensures;
    }
