-- `host_replies::read_lent` meets its contract: the reader is chosen, and told which.
use mathlib.Core.Path.{sym, ap, ◌∙◌}
use mathlib.Core.Bool.{Bool, cond}
use Rattle.rules.specs.Listing.{reading}
use Rattle.rules.specs.Least.{small_reading}
use Rattle.rules.specs.Kiss.{kiss_reading}
use Rattle.read_answers.proofs.Settled.{lent-judged}
use Rattle.host_replies.specs.Plans.{is_small, reading_as}
use Rattle.host_replies.proofs.read_lent.Goals as goal

pub returns-then-is_kiss : goal.returns-then-is_kiss
unfolding reading_as
returns-then-is_kiss c =
    let s = c.args.bytes.now in
    c.read_kiss_lent.ensures
    ∙ sym (ap (λ (b : Bool). cond b (kiss_reading s) (cond (is_small c.args.form) (small_reading s) (reading s))) (sym c.is_kiss.ensures ∙ c.if-is_kiss.true))

pub returns : goal.returns
unfolding reading_as
returns c =
    let s = c.args.bytes.now in
    lent-judged c.read_lent.ensures
    ∙ ap (λ (b : Bool). cond b (small_reading s) (reading s)) c.is_small.ensures
    ∙ sym (ap (λ (b : Bool). cond b (kiss_reading s) (cond (is_small c.args.form) (small_reading s) (reading s))) (sym c.is_kiss.ensures ∙ c.if-is_kiss.false))
