-- `judge_search::are_unlike` meets its contract.
use mathlib.Core.Bool.{not}
use mathlib.Core.Path.{sym, ap, ◌∙◌}
use lib.Dec.{eqb}
use Rattle.judge_search.proofs.Words.{differs-outputs, differs-unnamed, differs-named}
use Rattle.judge_search.proofs.are_unlike.Goals as goal

pub returns-then-is_unlike : goal.returns-then-is_unlike
returns-then-is_unlike c =
    let a = c.args in
    c.if-is_unlike.true ∙ sym (differs-outputs a.listing a.cover (sym c.is_unlike.ensures ∙ c.if-is_unlike.true))

pub returns-else-listing-ne0 : goal.returns-else-listing-ne0
returns-else-listing-ne0 c =
    let a = c.args in
    ap (λ n. not (eqb n 0)) c.if-listing-ne0.false ∙ sym (differs-unnamed a.listing a.cover (sym c.is_unlike.ensures ∙ c.if-is_unlike.false) c.if-listing-ne0.false)

pub returns-then-listing-ne0 : goal.returns-then-listing-ne0
returns-then-listing-ne0 c =
    let a = c.args in
    differs-named a.listing a.cover (sym c.is_unlike.ensures ∙ c.if-is_unlike.false) c.if-listing-ne0.true c.is_unlike-then-listing-ne0.ensures
