-- `host_replay::print_piece` meets its contract.
use mathlib.Core.Path.{ap, ◌∙◌}
use Rattle.write_parts.specs.Parts.{begun}
use Rattle.write_parts.specs.declared.Part.{Part}
use Rattle.run_replay.specs.Places.{Course, course_of, ran_on}
use Rattle.host_replay.proofs.Replies.{course-pieces, ran-part, ran-place, piece-printed, piece-fits}
use Rattle.host_replay.proofs.print_piece.Goals as goal

pub returns : goal.returns
returns c =
    let a = c.args in
    let g : Course = course_of a.m a.place a.run.now in
    let ran = c.add_piece-ran.ensures ∙ ap (λ (p : Part). ran_on g (p, a.out.now)) c.begin.ensures in
    let lines = course-pieces a.m a.place a.run.now in
    let parts = ran-part g (begun 0, a.out.now) ran in
    (piece-printed g lines a.out.now parts (ran-place g (begun 0, a.out.now) ran), piece-fits g lines a.out.now parts)
