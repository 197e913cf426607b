-- `code_least::table::mask_of` meets its contract: the mask from here on is the mask from the start, and each requirement still to come has room for its digit.
use mathlib.Core.Path.{sym, ap, ◌∙◌}
use Prim.Native.Nat.{◌+◌, ◌*◌}
use lib.ListN.{length}
use Rattle.rules.specs.Text.{digit}
use Rattle.rules.specs.Requirements.{met}
use Rattle.code_least.specs.Table.{mask_from}
use Rattle.code_least.proofs.Masks.{room-more}
use Rattle.code_least.proofs.table.mask_of.Goals as goal

pub loop-r-preserved : goal.loop-r-preserved
unfolding mask_from
loop-r-preserved c =
    let a = c.args in
    let m = c.loop-r.m in
    let step = c.in-Some.ensures.steps in
    let digit-here = c.with_digit-m.ensures ∙ ap (λ d. m * 2 + digit d) c.meets.ensures in (
      rw digit-here (room-more m _ _ (met 64 c.in-Some.r a.b) c.loop-r.invariant.0 (ap length step)),
      rw digit-here (sym (ap (mask_from m a.b) step) ∙ c.loop-r.invariant.1),
    )

pub returns : goal.returns
unfolding mask_from
returns c =
    sym (ap (mask_from c.loop-r.m c.args.b) c.in-None.ensures.steps.0) ∙ c.loop-r.invariant.1
