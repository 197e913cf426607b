-- `host_replay::print_from` meets its contract: the lines were added to a part that begins at the byte asked for.
use mathlib.Core.Path.{ap, ◌∙◌}
use Rattle.write_parts.specs.Parts.{begun}
use Rattle.write_parts.specs.declared.Part.{Part}
use Rattle.run_replay.specs.Places.{Course, course_of, ran_on}
use Rattle.run_replay.specs.declared.Place.{Place}
use Rattle.host_replay.proofs.Replies.{ran-part}
use Rattle.host_replay.proofs.print_from.Goals as goal

pub returns : goal.returns
returns c =
    let a = c.args in
    let g : Course = course_of a.m.now Place.First a.run.now in
    ran-part g (begun a.from, a.out.now) (c.add_piece-ran.ensures ∙ ap (λ (p : Part). ran_on g (p, a.out.now)) c.begin.ensures)
