-- `code_judging::meets` meets its contract: one way round, and the other.
use Rattle.code_judging.proofs.Ways.{met-one-way, met-other-way}
use mathlib.Core.Path.{sym, ◌∙◌}
use Rattle.code_judging.proofs.meets.Goals as goal

pub returns-then-parts : goal.returns-then-parts
returns-then-parts c =
    let s = c.args in
    c.if-parts.true ∙ sym (met-one-way 64 s.b s.r.first s.r.second (sym c.parts.ensures ∙ c.if-parts.true))

pub returns-else-parts : goal.returns-else-parts
returns-else-parts c =
    let s = c.args in
    c.parts-else-parts.ensures ∙ sym (met-other-way 64 s.b s.r.first s.r.second (sym c.parts.ensures ∙ c.if-parts.false))
