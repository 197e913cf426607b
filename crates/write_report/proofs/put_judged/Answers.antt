-- `write_report::put_judged` meets its contract, by the list that is wanted and by the judgement.
use Rattle.write_pen.proofs.Laws.{wrote_none, wrote_as}
use Rattle.write_report.proofs.Judged.{met-line, unmet-line, no-met-line, no-unmet-line}
use native.Mathlib.Omega.{arith}
use Rattle.write_report.proofs.put_judged.Goals as goal

pub returns-in-Met-Some : goal.returns-in-Met-Some
returns-in-Met-Some c =
    wrote_as c.put_met_line.ensures (met-line _ _ _ _ c.in-Met-Some.is-0 c.in-Met-Some.is-1)

pub returns-in-Unmet-None : goal.returns-in-Unmet-None
returns-in-Unmet-None c =
    wrote_as c.put_unmet_line.ensures (unmet-line _ _ _ c.in-Unmet-None.is-0 c.in-Unmet-None.is-1)

pub returns-in_default : goal.returns-in_default
returns-in_default c =
    let a = c.args in
    wrote_as (wrote_none a.out.now a.at (omega arith) (omega arith)) (no-met-line _ _ _ c.in_default.is-0 c.in_default.is-1)

pub returns-in_default-2 : goal.returns-in_default-2
returns-in_default-2 c =
    let a = c.args in
    wrote_as (wrote_none a.out.now a.at (omega arith) (omega arith)) (no-unmet-line _ _ _ _ c.in_default.is-0 c.in_default.is-1)
