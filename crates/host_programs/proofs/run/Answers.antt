-- `run`: what is printed of any listing is short, and it is the answer to the bytes that are read.
use Rattle.std.proofs.Common.{◌≡◌, ◌≤◌, ◌<◌, ◌^◌, length, take, sym, ap, subst, ◌∙◌, arith, length-take-le, rules}
use Rattle.rules.specs.Answers.{printed}
use Rattle.host_replies.specs.Ready.{reply_of}
use Rattle.host_replies.specs.Saying.{reply_to}
use Rattle.host_replies.specs.declared.Ready.{Ready}
use Rattle.host_prints.proofs.Printing.{printed-short}
use Rattle.host_programs.specs.Printed.{answer_to, parts_of}
use Rattle.host_programs.proofs.Answered.{parts-whole, answered-ok}
use Rattle.rules.specs.declared.Refused.{Refused}
use Rattle.std.specs.Prelude.{Result}
use Rattle.host_programs.proofs.run.Goals as goal

pub print_all-requires : goal.print_all-requires
print_all-requires g c = subst (λ (d : Result Ready Refused). length (printed (reply_of d)) < 2 ^ 64) (sym c.prepare-ready.ensures) (printed-short c.args.wanted _ c.in_ok-more.more)

pub returns : goal.returns
unfolding answer_to
returns g c =
    let n = c.in_ok-read.read in
    let bytes = c.fill.new.bytes in
    let read = c.in_ok-read.ensures in
    let full : length bytes ≡ 65536 = search rules in
    let fits : n ≤ 65536 = omega (arith, full, read.within) in
    let more = c.in_ok-more.more in
    answered-ok n fits (reply_to c.args.wanted) (take n bytes) (length-take-le n bytes read.within) c.print_all.result
    (g.R.Read.remaining c.args.input.now) (g.R.Read.remaining c.fill.new.input) (g.W.Write.contents c.args.output.now) (g.W.Write.contents c.print_all.new.output) more
    _ read.bytes (λ h. read.end (omega (arith, full))) c.in_ok-more.ensures
    (ap (parts_of 65536) c.prepare-ready.ensures ∙ parts-whole c.args.wanted (take n bytes) 65536 (omega arith) more) c.print_all.ensures
