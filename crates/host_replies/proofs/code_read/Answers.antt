-- `host_replies::code_read` meets its contract: the encoder and the text give what the listing is ready for, or the first refusal.
use Rattle.std.proofs.lemmas.Result.{err_from_is_err_and}
use Rattle.host_replies.proofs.Made.{not-coded, withheld, made}
use Rattle.host_replies.proofs.code_read.Goals as goal

pub returns-in_err-encoding : goal.returns-in_err-encoding
returns-in_err-encoding c =
    let p = err_from_is_err_and c.from_residual.result c.from_residual.ensures.1 in
    rw (p.1, p.2) (not-coded c.args.plan c.args.t c.in_err-encoding.ensures)

pub returns-in_err-verdict_of : goal.returns-in_err-verdict_of
returns-in_err-verdict_of c =
    let p = err_from_is_err_and c.from_residual-in_err-verdict_of.result c.from_residual-in_err-verdict_of.ensures.1 in
    rw (p.1, p.2) (withheld c.args.plan c.args.t c.in_ok-encoding.ensures c.in_err-verdict_of.ensures)

pub returns : goal.returns
returns c = made c.args.plan c.args.t c.in_ok-encoding.ensures c.in_ok-verdict_of.ensures
