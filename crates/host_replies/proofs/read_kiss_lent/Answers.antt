-- `host_replies::read_kiss_lent` meets its contract: what is read, in its place.
use Rattle.std.proofs.lemmas.Result.{err_from_is_err_and}
use Rattle.host_replies.proofs.read_kiss_lent.Goals as goal

pub returns-in_err-t : goal.returns-in_err-t
returns-in_err-t c =
    let p = err_from_is_err_and c.from_residual.result c.from_residual.ensures.1 in
    rw (p.1, p.2) c.in_err-t.ensures

pub returns : goal.returns
returns c = c.in_ok-t.ensures
