-- `host_replies::read_wanted` meets its contract: what is read, in the width that the text asks for, or the reader's refusal.
use mathlib.Core.Path.{ap, ◌∙◌}
use Prim.Native.Nat.{ℕ}
use Rattle.std.proofs.lemmas.Result.{err_from_is_err_and}
use Rattle.rules.specs.Widths.{with_width}
use Rattle.std.specs.Prelude.{Ok}
use Rattle.host_replies.specs.Ready.{widened}
use Rattle.host_replies.proofs.read_wanted.Goals as goal

pub returns-in_err-read_lent : goal.returns-in_err-read_lent
unfolding widened
returns-in_err-read_lent c =
    let p = err_from_is_err_and c.from_residual.result c.from_residual.ensures.1 in
    rw (p.1, p.2) (ap (widened c.args.plan.text) c.in_err-read_lent.ensures)

pub returns : goal.returns
unfolding widened
returns c = ap (λ (k : ℕ). Ok (with_width k c.read_lent.new.t)) c.width_for-width.ensures ∙ ap (widened c.args.plan.text) c.in_ok-read_lent.ensures
