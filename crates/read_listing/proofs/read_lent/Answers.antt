-- `read_listing::read_lent` meets its contract: refused before the lines, or what the lines say.
use mathlib.Core.Path.{sym, ap, ◌∙◌}
use Rattle.rules.specs.Listing.{Reading, checked}
use Rattle.read_answers.specs.Lent.{lent}
use Rattle.read_listing.proofs.Small.{begun-refused, begun-read}
use Rattle.read_listing.proofs.read_lent.Goals as goal

pub returns-then-is_err : goal.returns-then-is_err
returns-then-is_err c =
    begun-refused c.args.bytes.now c.args.small (sym c.is_err.ensures.value ∙ c.if-is_err.true) c.blank_listing-none.ensures c.first_verdict-first.ensures

pub returns : goal.returns
returns c =
    c.settle_lent.ensures
    ∙ ap (λ (r : Reading). lent (checked r)) c.read_all-said.ensures
    ∙ ap lent (begun-read c.args.bytes.now c.args.small (sym c.is_err.ensures.value ∙ c.if-is_err.false) c.first_verdict-first.ensures)
