-- `move_families::marks::sway_run` meets its contract.
use Rattle.std.proofs.Common.{◌<◌, length, refl, arith}
use Rattle.move_families.proofs.Marked.{marked_all, marked-lowest, marked_turn, marked-fewer, marked-none, moved-chunk}
use Rattle.move_families.proofs.marks.sway_run.Goals.{After-lowest}
use Rattle.move_families.proofs.marks.sway_run.Goals as goal

-- the lowest mark is that of a family of the run
lowest-within : (c : After-lowest) → c.lowest.result < length c.as_chunks.result.0.now
lowest-within c =
    let a = c.args in
    let l = c.loop-marks in
    let h = marked-lowest a.run.now a.b a.s a.t.now l.t l.looks l.marks _ l.invariant c.loop-marks-test.true c.lowest.ensures in
    omega (arith, h.0, c.as_chunks.ensures.front_len)

pub loop-marks-init : goal.loop-marks-init
loop-marks-init c =
    let a = c.args in
    marked_all a.run.now a.b a.s a.t.now _ c.requires c.marks_of-marks.ensures

pub bounds-families-lowest : goal.bounds-families-lowest
bounds-families-lowest c =
    lowest-within (goal.at.bounds-families-lowest c).After-lowest

pub bounds-families-lowest-in-loop-marks : goal.bounds-families-lowest-in-loop-marks
bounds-families-lowest-in-loop-marks c =
    lowest-within (goal.at.bounds-families-lowest-in-loop-marks c).After-lowest

pub bounds-families-lowest-in-loop-marks-2 : goal.bounds-families-lowest-in-loop-marks-2
bounds-families-lowest-in-loop-marks-2 c =
    lowest-within (goal.at.bounds-families-lowest-in-loop-marks-2 c).After-lowest

pub loop-marks-smaller : goal.loop-marks-smaller
loop-marks-smaller c =
    let a = c.args in
    let l = c.loop-marks in
    marked-fewer a.run.now a.b a.s a.t.now l.t l.looks l.marks _ l.invariant c.loop-marks-test.true c.lowest.ensures _ c.without_lowest-marks.ensures

pub loop-marks-preserved : goal.loop-marks-preserved
loop-marks-preserved c =
    let a = c.args in
    let l = c.loop-marks in
    let w = c.as_chunks.ensures in
    let h = lowest-within (goal.at.loop-marks-preserved c).After-lowest in
    marked_turn a.run.now a.b a.s a.t.now l.t l.looks l.marks _ l.invariant c.loop-marks-test.true c.lowest.ensures _ _ _ _
    (moved-chunk a.run.now a.b a.s _ w.front w.front_len c.lowest.result h l.t _ _ c.move_family-looks.ensures) refl c.without_lowest-marks.ensures

pub returns : goal.returns
returns c =
    let a = c.args in
    let l = c.loop-marks in
    marked-none a.run.now a.b a.s a.t.now l.t l.looks l.marks c.loop-marks-test.false l.invariant
