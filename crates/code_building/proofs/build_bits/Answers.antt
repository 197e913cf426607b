-- `code_building::build_bits` meets its contract: the rest of the rule from here gives the whole code.
use mathlib.Core.Path.{refl, sym, ◌∙◌}
use mathlib.Core.List.{◌++◌}
use Prim.Native.Nat.{◌+◌, ◌≤◌, ◌<◌, ◌^◌}
use lib.ListN.{length, drop, length-set}
use lib.Seq.{length-take-le}
use Rattle.code_building.proofs.Running.{running-start, running_more, running-end, running_none, same-words, words-behind, sum_fits}
use Rattle.code_building.proofs.build_bits.Goals.{After-add_bit-a}
use Rattle.code_building.proofs.build_bits.Goals as goal

-- the families that are left stand in the list
left_there : (c : After-add_bit-a) → c.add_bit-a.result.left ≤ length (c.add_bit-a.new.fs ++ drop c.loop-width.left c.loop-width.fs)
left_there c = words-behind _ _ _ _ c.requires _ _ _ _ _ _ _ c.loop-width.invariant.0 _ _ _ _ _ c.add_bit-a.ensures

fits : (c : After-add_bit-a) → (c.loop-width.passes + c.add_bit-a.result.passes < 2 ^ 64) × (c.loop-width.looks + c.add_bit-a.result.looks < 2 ^ 64)
fits c = sum_fits _ _ _ _ c.requires _ _ _ _ _ _ _ c.loop-width.invariant.0 _ _ _ _ _ c.add_bit-a.ensures

pub loop-width-init : goal.loop-width-init
loop-width-init c = (running-start _ _ _ _ c.requires c.count_live-live.result c.count_live-live.ensures, refl, refl)

pub returns-else-live-ne0 : goal.returns-else-live-ne0
returns-else-live-ne0 c = running_none _ _ _ _ c.requires _ _ _ _ _ _ _ c.loop-width.invariant.0 c.if-live-ne0.false

pub slice_bounds-count_live-end-in-loop-width-3 : goal.slice_bounds-count_live-end-in-loop-width-3
slice_bounds-count_live-end-in-loop-width-3 c = left_there (goal.at.slice_bounds-count_live-end-in-loop-width-3 c).After-add_bit-a

pub slice_bounds-count_live-end-in-loop-width-4 : goal.slice_bounds-count_live-end-in-loop-width-4
slice_bounds-count_live-end-in-loop-width-4 c = sym (length-take-le c.add_bit-a.result.left _ (left_there (goal.at.slice_bounds-count_live-end-in-loop-width-4 c).After-add_bit-a))

pub overflow_add-passes : goal.overflow_add-passes
overflow_add-passes c = record { fits = (fits (goal.at.overflow_add-passes c).After-add_bit-a).0 }

pub overflow_add-looks : goal.overflow_add-looks
overflow_add-looks c = record { fits = (fits (goal.at.overflow_add-looks c).After-add_bit-a).1 }

pub loop-width-preserved : goal.loop-width-preserved
loop-width-preserved c = (
  running_more _ _ _ _ c.requires _ _ _ _ _ _ _ c.loop-width.invariant.0 _ _ _ _ _ c.add_bit-a.ensures _ c.add_bit-a.auto.fs c.loop-width-test.true c.if-live-ne0.true c.count_live-live-in-loop-width.ensures,
  same-words c.loop-width.left c.loop-width.fs c.add_bit-a.new.fs c.add_bit-a.auto.fs ∙ c.loop-width.invariant.1,
  length-set c.loop-width.bits c.loop-width.width c.add_bit-a.result.bit ∙ c.loop-width.invariant.2,
)

pub returns-after-loop-width : goal.returns-after-loop-width
returns-after-loop-width c = running-end _ _ _ _ c.requires _ _ _ _ _ _ _ c.loop-width.invariant.0 c.loop-width-test.false
