-- `host_names::print_names` meets its contract: too long, a refusal, or the names.
use mathlib.Core.Path.{◌≡◌, sym, ap, ◌∙◌}
use mathlib.Core.Bool.{Bool, cond}
use mathlib.Core.List.{List}
use Prim.Native.Nat.{ℕ}
use Rattle.rules.specs.Answers.{Reply, refuses, printed}
use Rattle.rules.specs.KissAnswers.{kiss_names_reply}
use Rattle.rules.specs.declared.Refusal.TheVariants.{Limit}
use Rattle.write_pen.proofs.Laws.{wrote_as}
use Rattle.host_names.proofs.Named.{names-refused, names-accepted}
use Rattle.host_names.proofs.print_names.Goals as goal

-- what is printed, by whether more bytes follow
by-more : (s : List ℕ) {more b : Bool} {x : Reply} → more ≡ b → cond b (refuses Limit 0) (kiss_names_reply s) ≡ x → printed x ≡ printed (cond more (refuses Limit 0) (kiss_names_reply s))
by-more s e h = ap printed (sym h ∙ sym (ap (λ (b : Bool). cond b (refuses Limit 0) (kiss_names_reply s)) e))

pub returns-in-Err : goal.returns-in-Err
returns-in-Err c =
    let s = c.args.bytes.now in
    wrote_as c.put_refusal-in-Err.ensures (by-more s c.if-more.false (names-refused s c.in-Err.ensures))

pub returns-in-Ok : goal.returns-in-Ok
unfolding printed
returns-in-Ok c =
    let s = c.args.bytes.now in
    wrote_as c.put_names.ensures (by-more s c.if-more.false (names-accepted s c.in-Ok.ensures))
