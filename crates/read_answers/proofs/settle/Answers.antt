-- `read_answers::settle` meets its contract: what is refused stays so, then two rows may clash.
use Rattle.std.proofs.lemmas.Result.{err_from_is_err_and}
use Rattle.read_answers.proofs.Settled.{refused-checked, clash-checked, clear-checked}
use Rattle.read_answers.proofs.settle.Goals as goal

pub returns-in_err-t : goal.returns-in_err-t
returns-in_err-t c =
    let p = err_from_is_err_and c.from_residual.result c.from_residual.ensures.1 in rw (p.1, p.2) (refused-checked c.in_err-t.was)

pub returns-in_err-first_clash : goal.returns-in_err-first_clash
returns-in_err-first_clash c =
    let p = err_from_is_err_and c.from_residual-in_err-first_clash.result c.from_residual-in_err-first_clash.ensures.1 in rw (p.1, p.2) (clash-checked c.in_ok-t.was c.in_err-first_clash.ensures)

pub returns : goal.returns
returns c = clear-checked c.in_ok-t.was c.in_ok-first_clash.ensures
