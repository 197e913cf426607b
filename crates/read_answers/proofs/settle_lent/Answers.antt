-- `read_answers::settle_lent` meets its contract: blank where it is refused, else as it was.
use mathlib.Core.Path.{◌≡◌, sym, ap, ◌∙◌}
use Rattle.rules.specs.Listing.{rows_of, or_else, conflict}
use Rattle.read_answers.proofs.Settled.{settled-blank, settled-kept}
use Rattle.read_answers.proofs.settle_lent.Goals.{After-or_else-verdict}
use Rattle.read_answers.proofs.settle_lent.Goals as goal

-- the reader's verdict, and then the clash
verdict : (c : After-or_else-verdict) → c.or_else-verdict.result ≡ or_else c.args.said (conflict (rows_of c.args.t.now))
verdict c = c.or_else-verdict.ensures ∙ ap (or_else c.args.said) c.first_clash-clash.ensures

pub returns-then-is_err : goal.returns-then-is_err
returns-then-is_err c =
    settled-blank c.args.said c.args.t.now (verdict (goal.at.returns-then-is_err c).After-or_else-verdict) (sym c.is_err.ensures.value ∙ c.if-is_err.true) c.blank_listing-none.ensures

pub returns-else-is_err : goal.returns-else-is_err
returns-else-is_err c =
    settled-kept c.args.said c.args.t.now (verdict (goal.at.returns-else-is_err c).After-or_else-verdict) (sym c.is_err.ensures.value ∙ c.if-is_err.false)
