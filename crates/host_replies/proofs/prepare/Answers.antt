-- `host_replies::prepare` meets its contract: what the steps give, with the listing.
use Rattle.std.proofs.lemmas.Result.{err_from_is_err_and}
use Rattle.host_replies.proofs.Made.{not-read, steps}
use Rattle.host_replies.proofs.prepare.Goals as goal

pub returns-in_err-read_wanted : goal.returns-in_err-read_wanted
returns-in_err-read_wanted c =
    let p = err_from_is_err_and c.from_residual.result c.from_residual.ensures.1 in
    rw (p.1, p.2) (not-read _ _ c.plan_of-plan.ensures c.in_err-read_wanted.ensures)

pub returns-in_err-coded : goal.returns-in_err-coded
returns-in_err-coded c =
    let p = err_from_is_err_and c.from_residual-in_err-coded.result c.from_residual-in_err-coded.ensures.1 in
    rw (p.1, p.2) (steps _ _ c.plan_of-plan.ensures c.in_ok-read_wanted.ensures c.in_err-coded.ensures)

pub returns : goal.returns
returns c = steps _ _ c.plan_of-plan.ensures c.in_ok-read_wanted.ensures c.in_ok-coded.ensures
