-- `read_lines::row::row_rest` meets its contract: the first space that is missing at its place refuses the line.
use mathlib.Core.Path.{sym, ◌∙◌}
use Rattle.read_lines.proofs.row.Laws.{rest-first, rest-second, rest-moore, rest-mealy}
use Rattle.read_lines.proofs.row.row_rest.Goals as goal

pub returns-then-not-stands_at : goal.returns-then-not-stands_at
returns-then-not-stands_at c = sym (rest-first _ _ _ _ (sym c.stands_at.ensures ∙ c.if-not-stands_at.true))

pub returns-then-not-stands_at-2 : goal.returns-then-not-stands_at-2
returns-then-not-stands_at-2 c =
    let p = sym c.stands_at.ensures ∙ c.if-not-stands_at.false in
    sym (rest-second _ _ _ _ p c.behind-u.ensures (sym c.stands_at-2.ensures ∙ c.if-not-stands_at-2.true))

pub returns-then-h : goal.returns-then-h
returns-then-h c =
    let p = sym c.stands_at.ensures ∙ c.if-not-stands_at.false in
    let q = sym c.stands_at-2.ensures ∙ c.if-not-stands_at-2.false in
    c.row_read.ensures
    ∙ sym (rest-moore _ _ _ _ p c.behind-u.ensures q c.behind-v.ensures c.first_of-input.ensures c.first_of-group.ensures c.if-h.true)

pub returns : goal.returns
returns c =
    let p = sym c.stands_at.ensures ∙ c.if-not-stands_at.false in
    let q = sym c.stands_at-2.ensures ∙ c.if-not-stands_at-2.false in
    c.row_end.ensures
    ∙ sym (rest-mealy _ _ _ _ p c.behind-u.ensures q c.behind-v.ensures c.first_of-input.ensures c.first_of-group.ensures c.if-h.false)
