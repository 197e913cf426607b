-- `print_all`: each part but the last gets on, and no more is printed than there is; with the last, all is.
use Rattle.std.proofs.Common.{suc, ◌≤◌, length, refl, sym, subst, ◌∙◌, arith}
use Rattle.std.specs.Io.KnownBytes.{Appends}
use Rattle.rules.specs.Answers.{printed}
use Rattle.rules.specs.Parts.{gathered}
use Rattle.host_replies.specs.Ready.{reply_of}
use Rattle.host_prints.proofs.Printing.{gets-further}
use Rattle.host_programs.specs.Printed.{parts_of}
use Rattle.host_programs.proofs.Answered.{appended_none, appended-more, none_later, next, next-length, none-next}
use Rattle.host_programs.proofs.print_all.Goals as goal

pub loop-ready-init : goal.loop-ready-init
unfolding gathered
loop-ready-init g c = record { same_length = refl; within = omega arith; parts = (0, omega arith, refl, appended_none _) }

pub returns-then-given-eq0 : goal.returns-then-given-eq0
unfolding parts_of
returns-then-given-eq0 g c =
    let l = c.loop-ready in
    let (k, few, at, done) = l.invariant.parts in
    let room = length c.args.part.now in
    let reply = reply_of c.args.ready in
    let none = none-next reply room k l.from l.part _ _ l.invariant.same_length at c.print-given.ensures.0 c.if-given-eq0.true in
    let short : k ≤ length (printed reply) = omega (arith, few, l.invariant.within) in
    subst (Appends _ _) (sym (none_later room k (printed reply) none short)) done

pub overflow_add-from : goal.overflow_add-from
overflow_add-from g c =
    let l = c.loop-ready in
    let further = gets-further (reply_of c.args.ready) l.from l.part c.print-given.result _ c.print-given.ensures.0 l.invariant.within in
    record { fits = omega (arith, further, c.requires) }

pub loop-ready-smaller : goal.loop-ready-smaller
loop-ready-smaller g c =
    let l = c.loop-ready in
    let further = gets-further (reply_of c.args.ready) l.from l.part c.print-given.result _ c.print-given.ensures.0 l.invariant.within in
    omega (arith, further, c.if-given-eq0.false)

pub loop-ready-preserved : goal.loop-ready-preserved
loop-ready-preserved g c =
    let l = c.loop-ready in
    let (k, few, at, done) = l.invariant.parts in
    let room = length c.args.part.now in
    let reply = reply_of c.args.ready in
    let e = c.print-given.ensures.0 in
    let longer = next-length reply room k l.from l.part _ _ l.invariant.same_length at e in
    let more = next reply room k l.from l.part _ _ l.invariant.same_length at e in
    record {
      same_length = c.print-given.auto.out ∙ l.invariant.same_length;
      within = gets-further reply l.from l.part c.print-given.result _ e l.invariant.within;
      parts = (suc k, omega (arith, few, c.if-given-eq0.false), longer, subst (Appends _ _) (sym more) (appended-more _ _ _ _ _ done c.in_ok-write_all.ensures.bytes));
    }
