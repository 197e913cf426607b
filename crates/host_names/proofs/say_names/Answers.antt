-- `host_names::say_names` meets its contract: what was read of the names is the reply to them, and small.
use mathlib.Core.Path.{sym, ap, ◌∙◌}
use Rattle.rules.specs.Answers.{Reply}
use Rattle.std.proofs.lemmas.Result.{err_from_is_err_and}
use Rattle.host_replies.specs.Saying.{saying}
use Rattle.host_names.proofs.Named.{names-refused, names-accepted, names-few}
use Rattle.host_names.proofs.say_names.Goals as goal

pub say_whole-requires : goal.say_whole-requires
say_whole-requires c = names-few c.args.bytes.now c.in_ok-names.ensures

pub returns-in_err-names : goal.returns-in_err-names
unfolding saying
returns-in_err-names c =
    let a = c.args in
    let p = err_from_is_err_and c.from_residual.result c.from_residual.ensures.1 in
    rw (p.1, p.2) (sym (ap (λ (x : Reply). saying x a.out.now) (names-refused a.bytes.now c.in_err-names.ensures)))

pub returns : goal.returns
returns c =
    let a = c.args in
    c.say_whole.ensures ∙ sym (ap (λ (x : Reply). saying x a.out.now) (names-accepted a.bytes.now c.in_ok-names.ensures))
