-- `judge_reading::put_row` meets its contract.
use native.Mathlib.Omega.{arith}
use Rattle.judge_reading.proofs.Laws.{no_row, no_place, unfit-inputs, unfit-outputs, row_laid_lem}
use Rattle.judge_reading.proofs.put_row.Goals as goal

pub returns-then-g-h : goal.returns-then-g-h
returns-then-g-h c = no_row _ _ _ _ _ c.if-g-h.true

pub returns-then-h-ge-MOST_CHECKED : goal.returns-then-h-ge-MOST_CHECKED
returns-then-h-ge-MOST_CHECKED c =
    no_place _ _ _ _ _ (omega (arith, c.if-g-h.false)) c.if-h-ge-MOST_CHECKED.true

pub returns-then-h-q : goal.returns-then-h-q
returns-then-h-q c =
    unfit-inputs _ _ _ _ _ (omega (arith, c.if-g-h.false)) (omega (arith, c.if-h-ge-MOST_CHECKED.false)) c.if-h-q.true

pub returns-then-h-q-2 : goal.returns-then-h-q-2
returns-then-h-q-2 c =
    unfit-outputs _ _ _ _ _ (omega (arith, c.if-g-h.false)) (omega (arith, c.if-h-ge-MOST_CHECKED.false)) c.if-h-q.false c.if-h-q-2.true

pub returns : goal.returns
returns c =
    row_laid_lem _ _ _ _ _ (omega (arith, c.if-g-h.false)) (omega (arith, c.if-h-ge-MOST_CHECKED.false)) c.if-h-q.false c.if-h-q-2.false c.put_line.ensures
