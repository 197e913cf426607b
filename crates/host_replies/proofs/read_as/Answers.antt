-- `host_replies::read_as` meets its contract: what is read into a listing of its own.
use Rattle.std.proofs.lemmas.Result.{err_from_is_err_and}
use Rattle.host_replies.proofs.read_as.Goals as goal

pub returns-in_err-read_lent : goal.returns-in_err-read_lent
returns-in_err-read_lent c =
    let p = err_from_is_err_and c.from_residual.result c.from_residual.ensures.1 in
    rw (p.1, p.2) c.in_err-read_lent.ensures

pub returns : goal.returns
returns c = c.in_ok-read_lent.ensures
