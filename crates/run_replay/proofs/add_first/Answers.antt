-- `run_replay::add_first` meets its contract.
use mathlib.Core.Path.{sym, ap, ◌∙◌}
use native.Mathlib.Omega.{arith}
use Rattle.read_pieces.proofs.Laws.{cut_of}
use Rattle.run_replay.specs.Places.{Course, ran_on}
use Rattle.run_replay.proofs.Lines.{reason-is, whole-missing, whole-refused, whole-read}
use Rattle.run_replay.proofs.add_first.Goals as goal

pub returns-then-run-end : goal.returns-then-run-end
returns-then-run-end c =
    let a = c.args in
    let cut = cut_of _ _ 0 (omega arith) c.cut-end.ensures in
    c.add_end.ensures
    ∙ ap (λ (g : Course). ran_on g (a.part, a.out.now)) (sym (whole-missing a.m.listing.now a.m.terms.now a.m.bits.now a.run.now _ cut c.if-run-end.true))

pub returns-in_default : goal.returns-in_default
returns-in_default c =
    let a = c.args in
    let cut = cut_of _ _ 0 (omega arith) c.cut-end.ensures in
    let e = reason-is _ c.in_default.is c.err.ensures.value c.unwrap_or.ensures in
    c.add_end-in_default.ensures
    ∙ ap (λ (g : Course). ran_on g (a.part, a.out.now)) (sym (whole-refused a.m.listing.now a.m.terms.now a.m.bits.now a.run.now _ cut c.if-run-end.false (sym c.start_line-got.ensures ∙ e)))

pub returns : goal.returns
returns c =
    let a = c.args in
    let cut = cut_of _ _ 0 (omega arith) c.cut-end.ensures in
    c.add_steps.ensures
    ∙ ap (λ (g : Course). ran_on g (a.part, a.out.now))
    (sym (whole-read a.m.listing.now a.m.terms.now a.m.bits.now a.run.now _ cut c.if-run-end.false (sym c.start_line-got.ensures ∙ c.in-Ok.is) c.code_of-code.ensures))
