-- `run_names`: what is printed is the answer to the bytes that are read.
use Rattle.std.proofs.Common.{◌≡◌, ◌≤◌, ◌∙◌, cond, length, take, ap, arith, length-take-le, rules}
use Rattle.rules.specs.Answers.{refuses, printed}
use Rattle.rules.specs.KissAnswers.{kiss_names_reply}
use Rattle.rules.specs.declared.Refusal.TheVariants.{Limit}
use Rattle.write_pen.proofs.Laws.{wrote-part}
use Rattle.host_programs.specs.Printed.{names_answer}
use Rattle.host_programs.proofs.Answered.{answered-ok, names-fit}
use Rattle.host_programs.proofs.run_names.Goals as goal

pub returns : goal.returns
unfolding names_answer
returns g c =
    let n = c.in_ok-read.read in
    let bytes = c.fill.new.bytes in
    let read = c.in_ok-read.ensures in
    let full : length bytes ≡ 65536 = search rules in
    let fits : n ≤ 65536 = omega (arith, full, read.within) in
    let more = c.in_ok-more.more in
    let wrote = c.print_names-written.ensures in
    let short = names-fit (take n bytes) more in
    let all : c.min.result ≡ c.print_names-written.result = omega (arith, c.min.ensures, wrote.ends, short) in
    let whole : take c.min.result c.print_names-written.new.out ≡ printed (cond more (refuses Limit 0) (kiss_names_reply (take n bytes)))
    = ap (λ m. take m c.print_names-written.new.out) all ∙ wrote-part wrote (search rules) in
    answered-ok n fits kiss_names_reply (take n bytes) (length-take-le n bytes read.within) c.write_all.result
    (g.R.Read.remaining c.args.input.now) (g.R.Read.remaining c.fill.new.input) (g.W.Write.contents c.args.output.now) (g.W.Write.contents c.write_all.new.self) more
    _ read.bytes (λ h. read.end (omega (arith, full))) c.in_ok-more.ensures whole c.write_all.ensures.bytes
