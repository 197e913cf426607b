-- `run_encoded::term_of` meets its contract.
use native.Mathlib.Omega.{arith}
use Rattle.run_encoded.proofs.Steps.{members-here, term_made}
use Rattle.run_encoded.proofs.term_of.Goals as goal

pub returns : goal.returns
returns c =
    let a = c.args in
    term_made a.head a.bits.now a.row (members-here a.head a.row (omega arith) c.everyone_of.ensures) c.some_mask-high.ensures c.all_mask.ensures c.some_mask-next.ensures
