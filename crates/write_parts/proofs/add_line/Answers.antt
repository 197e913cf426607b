-- `write_parts::add_line` meets its contract: one of the four ways that a line can go.
use mathlib.Core.Path.{sym, ◌∙◌}
use Prim.Native.Nat.{◌-◌}
use native.Mathlib.Omega.{arith}
use lib.ListN.{length, drop, length-drop}
use lib.Seq.{take_all}
use Rattle.write_pen.proofs.Laws.{wrote_as}
use Rattle.write_parts.proofs.Adding.{added_full, added-passed, added-kept}
use Rattle.write_parts.proofs.Lines.{put-down}
use Rattle.write_parts.proofs.add_line.Goals as goal

pub returns-then-part : goal.returns-then-part
returns-then-part c = let a = c.args in sym (added_full a.line.now a.out.now a.part c.if-part.true)

pub returns-then-line-skip : goal.returns-then-line-skip
returns-then-line-skip c = let a = c.args in sym (added-passed a.line.now a.out.now a.part c.if-part.false (omega arith))

pub returns-then-not-is_room : goal.returns-then-not-is_room
returns-then-not-is_room c =
    let a = c.args in
    sym (added-kept a.line.now a.out.now a.part c.if-part.false c.if-line-skip.false (sym c.is_room.ensures ∙ c.if-not-is_room.true))

pub returns : goal.returns
returns c =
    let a = c.args in
    let q = c.put_bytes-end.ensures in
    let f = sym c.is_room.ensures ∙ c.if-not-is_room.false in
    put-down a.line.now a.out.now _ a.part c.if-part.false c.if-line-skip.false f (wrote_as q (take_all (length a.line.now - a.part.skip) (drop a.part.skip a.line.now) (omega (arith, length-drop a.part.skip a.line.now))))
