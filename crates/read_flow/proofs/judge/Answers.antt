-- `read_flow::judge` meets its contract.
use mathlib.Core.Path.{sym, ap, ◌∙◌}
use Rattle.std.proofs.lemmas.Result.{err_from_is_err_and}
use Rattle.read_flow.specs.Flows.{flow_of, flow_given}
use Rattle.read_flow.proofs.Ends.{read-refused, read-accepted}
use Rattle.read_flow.proofs.judge.Goals as goal

pub returns-in_err-stability_of : goal.returns-in_err-stability_of
returns-in_err-stability_of c =
    let p = err_from_is_err_and c.from_residual.result c.from_residual.ensures.1 in
    rw (p.1, p.2) (ap flow_of (sym (read-refused _ _ (sym c.in_err-stability_of.ensures))))

pub returns : goal.returns
returns c =
    c.give.ensures ∙ ap flow_given c.gather.ensures ∙ sym (read-accepted _ _ (sym c.in_ok-stability_of.ensures))
