-- `move_families::move_families` meets its contract.
use Rattle.std.proofs.Common.{ℕ, ◌%◌, ◌^◌, sym, ap, ◌∙◌, ap₂}
use Rattle.families.proofs.Walk.{Words}
use Rattle.move_families.specs.Swayed.{doubled}
use Rattle.move_families.proofs.Lists.{Fits}
use Rattle.move_families.proofs.Whole.{moved-families, looked-families}
use Rattle.move_families.proofs.move_families.Goals as goal

pub returns : goal.returns
returns c =
    let a = c.args in
    let hw : Words a.fs.now = λ i. (c.type_inv.fs i).fits in
    let fit : Fits a.t.now = λ i. (c.slice_known-1.given i).fits in
    let v = c.sway_families-looks in (
      v.ensures.0 ∙ sym (ap (λ (m : ℕ). m % 2 ^ 64) (looked-families a.fs.now hw a.b a.s c.ranges.b.fits a.t.now fit)),
      c.double_own.ensures ∙ ap₂ (doubled a.s) c.level_at-v.ensures v.ensures.1 ∙ moved-families a.fs.now hw a.b a.s c.ranges.b.fits a.t.now fit,
    )
