-- `bit_live::count_family` meets its contract.
use Rattle.sets.specs.Sets.{size}
use Rattle.bit_live.proofs.Counts.{count-single, count-group}
use Rattle.std.proofs.Common.{sym, ap, ◌∙◌}
use Rattle.bit_live.proofs.count_family.Goals as goal

pub returns-then-out-eq0 : goal.returns-then-out-eq0
returns-then-out-eq0 c =
    sym (count-single c.args.all c.args.flip c.args.out c.if-out-eq0.true)

pub returns-else-out-eq0 : goal.returns-else-out-eq0
returns-else-out-eq0 c =
    let a = c.args in
    c.size_of.ensures ∙ ap size c.without_of.ensures ∙ sym (count-group a.all a.flip a.out c.if-out-eq0.false c.ranges.out.fits)
