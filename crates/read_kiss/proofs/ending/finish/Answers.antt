-- `ending::finish` meets its contract: 12, then 6.
use mathlib.Core.Path.{sym, ap₂, ◌∙◌}
use Rattle.std.proofs.lemmas.Result.{err_from_is_err_and}
use Rattle.rules.specs.Listing.{or_else}
use Rattle.read_kiss.proofs.Endings.{made-here}
use Rattle.read_kiss.proofs.ending.finish.Goals as goal

pub returns-in_err-or_else : goal.returns-in_err-or_else
returns-in_err-or_else c =
    let a = c.args in
    let p = err_from_is_err_and c.from_residual.result c.from_residual.ensures.1 in
    let verdict = c.in_err-or_else.ensures ∙ ap₂ or_else c.first_disagreement-wrong.ensures c.first_clash-clash.ensures in
    rw (p.1, p.2) (sym (made-here a.h a.n a.rows a.table c.listing_of-t.ensures verdict))

pub returns : goal.returns
returns c =
    let a = c.args in
    let verdict = c.in_ok-or_else.ensures ∙ ap₂ or_else c.first_disagreement-wrong.ensures c.first_clash-clash.ensures in
    sym (made-here a.h a.n a.rows a.table c.listing_of-t.ensures verdict)
