-- `read_lines::row::row_checked` meets its contract: 2, then 4, then 5.
use mathlib.Core.Path.{sym, ◌∙◌}
use borrow.Author.Tests.{le-leb, lt-leb, eq-eqb, ne_eqb}
use Rattle.rules.specs.Lines.{row_checked}
use Rattle.read_lines.proofs.row.Laws.{few-next, many-next}
use Rattle.read_lines.proofs.row.row_checked.Goals as goal

pub returns-then-count-ge-MOST_ROWS : goal.returns-then-count-ge-MOST_ROWS
unfolding row_checked
returns-then-count-ge-MOST_ROWS c = rw (le-leb _ _ c.if-count-ge-MOST_ROWS.true)

pub returns-then-row-eq0 : goal.returns-then-row-eq0
unfolding row_checked
returns-then-row-eq0 c = rw (lt-leb _ _ c.if-count-ge-MOST_ROWS.false, eq-eqb _ _ c.if-row-eq0.true)

pub returns-then-not-few : goal.returns-then-not-few
unfolding row_checked
returns-then-not-few c =
    rw (lt-leb _ _ c.if-count-ge-MOST_ROWS.false, ne_eqb _ _ c.if-row-eq0.false, many-next _ (sym c.few.ensures ∙ c.if-not-few.true))

pub returns : goal.returns
unfolding row_checked
returns c =
    rw (lt-leb _ _ c.if-count-ge-MOST_ROWS.false, ne_eqb _ _ c.if-row-eq0.false, few-next _ (sym c.few.ensures ∙ c.if-not-few.false))
