-- `judge_reading::read_piece` meets its contract: from here on it is what it is from the start.
use mathlib.Core.Path.{refl, sym, ap, ◌∙◌}
use Prim.Native.Nat.{◌+◌, ◌≤◌}
use native.Mathlib.Omega.{arith}
use lib.ListN.{length}
use Rattle.rules.specs.Text.{lf}
use Rattle.read_pieces.proofs.Laws.{cut_of}
use Rattle.judge_reading.proofs.Pieces.{more-place, more-tables, more-last, last-place, last-tables, last_taken, piece_is}
use Rattle.judge_reading.proofs.read_piece.Goals as goal

pub loop-end-init : goal.loop-end-init
loop-end-init c = (cut_of lf _ 0 (omega arith) c.cut-end.ensures, refl, refl, refl)

pub loop-end-preserved : goal.loop-end-preserved
loop-end-preserved c =
    let more = c.loop-end-test.true in
    let a = c.args in
    let text = a.piece.now in
    let here = c.loop-end.invariant.0 in (
      cut_of lf text (c.loop-end.end + 1) (omega (arith, more)) c.cut-end-in-loop-end.ensures,
      sym (more-last text c.loop-end.at c.loop-end.end here more) ∙ c.loop-end.invariant.1,
      more-place text c.loop-end.at c.loop-end.end here more c.loop-end.reached c.read_line-reached.ensures.place ∙ c.loop-end.invariant.2,
      more-tables text c.loop-end.at c.loop-end.end here more a.q c.loop-end.reached (c.loop-end.fires, c.loop-end.says) c.read_line-reached.ensures.place c.read_line-reached.ensures.tables ∙ c.loop-end.invariant.3,
    )

pub returns : goal.returns
returns c =
    let a = c.args in
    let text = a.piece.now in
    let here = c.loop-end.invariant.0 in
    let none : length text ≤ c.loop-end.end = omega (arith, c.loop-end-test.false) in record { piece = piece_is a.from text (sym (last-place text c.loop-end.at c.loop-end.end here none c.loop-end.reached) ∙ c.loop-end.invariant.2) (sym (ap length c.loop-end.invariant.1) ∙ last_taken text c.loop-end.at c.loop-end.end here none) (omega (arith, here.from, here.to)); tables = sym (last-tables text c.loop-end.at c.loop-end.end here none a.q c.loop-end.reached (c.loop-end.fires, c.loop-end.says)) ∙ c.loop-end.invariant.3 }
