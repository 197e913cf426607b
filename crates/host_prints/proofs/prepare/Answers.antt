-- `host_prints::prepare` meets its contract: a listing that goes on is too long, and any other is read as it is.
use mathlib.Core.Path.{◌≡◌, sym, ap, ◌∙◌}
use mathlib.Core.Bool.{Bool, cond}
use Rattle.std.specs.Prelude.{Err, Result}
use Rattle.rules.specs.Refusals.{refused}
use Rattle.rules.specs.declared.Refused.{Refused}
use Rattle.rules.specs.declared.Refusal.TheVariants.{Limit}
use Rattle.host_replies.specs.Ready.{ready}
use Rattle.host_replies.specs.declared.Ready.{Ready}
use Rattle.host_prints.specs.Printing.{ready_for}
use Rattle.host_prints.proofs.prepare.Goals as goal

-- what is ready, by whether more bytes follow
by-more : (d : Result Ready Refused) {more b : Bool} → more ≡ b → cond {A = Result Ready Refused} b (refused Limit 0) d ≡ cond {A = Result Ready Refused} more (refused Limit 0) d
by-more d h = sym (ap (λ (x : Bool). cond {A = Result Ready Refused} x (refused Limit 0) d) h)

pub returns-then-more : goal.returns-then-more
unfolding ready_for
returns-then-more c =
    let a = c.args in
    ap Err c.at.ensures ∙ by-more (ready a.wanted a.listing.now) c.if-more.true

pub returns : goal.returns
unfolding ready_for
returns c =
    let a = c.args in
    c.prepare.ensures ∙ by-more (ready a.wanted a.listing.now) c.if-more.false
